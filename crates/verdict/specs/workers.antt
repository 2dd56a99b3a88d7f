pub mod Segments
pub mod Kept
pub mod Until
pub mod Ends
