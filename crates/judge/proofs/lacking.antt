pub mod Links
pub mod Levels
pub mod Gaps
pub mod Missed
