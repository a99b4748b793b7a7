pub mod Conversing
pub mod Private
