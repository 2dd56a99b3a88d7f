pub mod inside
pub mod tree
pub mod moves
pub mod Cursors
pub mod Face
