pub mod Private
pub mod Shared
