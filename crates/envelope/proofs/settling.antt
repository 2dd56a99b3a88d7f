pub mod Ends
pub mod Rows
pub mod Few
pub mod Strays
pub mod Settled
