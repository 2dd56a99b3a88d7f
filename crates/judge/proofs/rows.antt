pub mod Tables
pub mod Sound
