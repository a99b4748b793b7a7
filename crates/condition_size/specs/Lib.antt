pub mod Private
pub mod Sizes
