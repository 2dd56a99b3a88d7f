pub mod First
pub mod Repeated
