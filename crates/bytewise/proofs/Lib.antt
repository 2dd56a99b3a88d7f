pub mod Booleans
pub mod Parts
pub mod Limits
pub mod Words
pub mod Every
pub mod Bytewise
pub mod Clearing
pub mod Searching
