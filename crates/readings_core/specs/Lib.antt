pub mod Follows
pub mod Private
pub mod Values
pub mod Widths
