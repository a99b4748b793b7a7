pub mod Growth
pub mod Private
pub mod Strategies
