pub mod Messages
pub mod Held
pub mod Calls
pub mod Fronts
pub mod workers
