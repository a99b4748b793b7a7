pub mod Overridden
pub mod Replacing
