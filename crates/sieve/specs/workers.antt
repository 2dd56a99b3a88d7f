pub mod Prints
pub mod Marks
pub mod Words
pub mod Came
