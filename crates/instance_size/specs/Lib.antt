pub mod Extents
pub mod Growth
pub mod Private
