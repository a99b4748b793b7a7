pub mod Private
pub mod Short
pub mod Sure
