pub mod Digits
pub mod Format
pub mod workers
pub mod Number
pub mod Numeral
pub mod Text
