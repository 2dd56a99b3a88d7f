pub mod Required
pub mod Envelope
pub mod Broken
pub mod workers
