pub mod Required
pub mod Tables
pub mod Columns
pub mod Framing
