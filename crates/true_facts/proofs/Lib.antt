pub mod Integers
pub mod Least
pub mod Bounds
pub mod Counting
pub mod Finite
pub mod Quotients
pub mod Types
pub mod Truths
