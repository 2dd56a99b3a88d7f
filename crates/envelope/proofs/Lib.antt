pub mod settling
pub mod Envelopes
pub mod walks
pub mod rows
pub mod EnvelopeSamples
