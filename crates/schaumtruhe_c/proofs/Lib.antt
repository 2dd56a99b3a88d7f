pub mod Numbers
pub mod Equal
pub mod Parts
