pub mod Sides
pub mod Walk
