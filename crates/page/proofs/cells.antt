pub mod Arms
pub mod Fields
pub mod Rows
