pub mod Remembering
pub mod Noting
