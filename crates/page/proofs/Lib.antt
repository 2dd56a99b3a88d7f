pub mod CellTests
pub mod Readings
