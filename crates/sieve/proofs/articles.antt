pub mod Gathering
pub mod Words
