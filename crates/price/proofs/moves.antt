pub mod Moved
pub mod ArticleMoved
