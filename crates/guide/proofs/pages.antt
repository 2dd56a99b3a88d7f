pub mod Scanned
pub mod Listing
pub mod Faults
pub mod Scan
pub mod Leftmost
pub mod OnePass
