pub mod Sought
pub mod Results
