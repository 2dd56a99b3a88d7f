pub mod Bytes
pub mod Every
pub mod Eights
pub mod Search
