pub mod Moods
pub mod Stops
pub mod Steps
