pub mod Laws
pub mod Projects
pub mod Refining
pub mod Sound
