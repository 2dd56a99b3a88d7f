pub mod Until
pub mod Judging
pub mod Onward
