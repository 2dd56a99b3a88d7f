pub mod Scanning
pub mod Released
pub mod Admitting
pub mod Boundaries
