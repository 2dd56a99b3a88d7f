pub mod Clean
pub mod Flags
pub mod Releases
