pub mod Kept
pub mod Tails
