pub mod Onward
pub mod Start
pub mod Tags
pub mod Loop
pub mod FourBytes
