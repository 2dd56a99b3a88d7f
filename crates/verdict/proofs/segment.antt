pub mod Texts
pub mod TagGiven
pub mod Answering
