pub mod Walking
pub mod Samples
