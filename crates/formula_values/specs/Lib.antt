pub mod Means
pub mod Private
