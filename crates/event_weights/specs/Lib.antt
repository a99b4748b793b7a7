pub mod Weights
pub mod Private
