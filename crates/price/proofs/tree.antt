pub mod Tables
pub mod Paged
pub mod Tags
pub mod Tree
pub mod Counted
pub mod Comes
pub mod Proper
pub mod Numbered
