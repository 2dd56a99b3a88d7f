pub mod Tables
pub mod Ties
pub mod Spans
