pub mod workers
pub mod Answers
