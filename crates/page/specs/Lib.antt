pub mod workers
pub mod Examined
pub mod Reading
