pub mod Members
pub mod Sought
