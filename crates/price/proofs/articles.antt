pub mod Seeking
pub mod Handed
