pub mod Tables
pub mod Marking
