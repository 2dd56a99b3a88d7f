pub mod Pages20d
pub mod Pages20c
