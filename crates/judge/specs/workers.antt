pub mod Words
pub mod Rows
pub mod Sets
pub mod NodeSets
pub mod Searches
