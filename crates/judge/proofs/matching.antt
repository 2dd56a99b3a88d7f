pub mod Codes
pub mod Matches
