pub mod Visits
pub mod Parts
pub mod Runs
