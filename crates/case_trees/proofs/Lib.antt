pub mod Fits
pub mod Plain
pub mod ProofTrees
pub mod Refuting
pub mod Sound
