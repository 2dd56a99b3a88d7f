pub mod Articles
pub mod workers
