pub mod Cuts
pub mod FrontKeys
pub mod UsualServices
pub mod ComponentFace
pub mod MarkFace
pub mod ComponentSamples
