pub mod Readings
pub mod Refusals
pub mod Calls
pub mod Demands
pub mod Demand3
pub mod workers
