pub mod Intervals
pub mod Accepting
pub mod Refusing
pub mod Moved
pub mod Face
