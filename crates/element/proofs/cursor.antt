pub mod Steps
pub mod Standing
pub mod Onward
pub mod Visits
pub mod Opening
pub mod Walks
