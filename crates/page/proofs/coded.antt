pub mod KeyCodes
pub mod KeyWords
