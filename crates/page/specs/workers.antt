pub mod Columns
pub mod Words
pub mod Keys
pub mod Walk
pub mod Places
pub mod Marks
pub mod Quick
pub mod Cells
