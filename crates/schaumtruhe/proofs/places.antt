pub mod Found
pub mod Only
pub mod Asked
pub mod Begun
