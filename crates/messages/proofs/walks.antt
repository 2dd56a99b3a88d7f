pub mod Tagging
pub mod Spots
pub mod Skipping
pub mod Searching
pub mod Grouping
pub mod Heads
