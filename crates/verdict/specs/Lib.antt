pub mod Named
pub mod Verdicts
pub mod Answers
pub mod Moves
pub mod workers
