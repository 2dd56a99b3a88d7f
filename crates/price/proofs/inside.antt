pub mod Lies
pub mod Parted
pub mod Places
