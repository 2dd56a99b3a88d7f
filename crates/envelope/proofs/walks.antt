pub mod Tags
pub mod Passing
pub mod Found
pub mod Steps
