pub mod Agreement
pub mod Positions
pub mod Articles
pub mod workers
