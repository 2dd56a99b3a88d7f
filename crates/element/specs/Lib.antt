pub mod Elements
pub mod Services
pub mod Components
pub mod Cursors
pub mod workers
