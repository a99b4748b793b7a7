pub mod Deps
pub mod Prints
pub mod Private
