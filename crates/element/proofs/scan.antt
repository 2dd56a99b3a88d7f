pub mod Endings
pub mod Scanning
pub mod Splits
pub mod Stopping
pub mod Services
pub mod Extents
