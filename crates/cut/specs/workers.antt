pub mod Scanning
pub mod Carrying
