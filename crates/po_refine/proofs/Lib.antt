pub mod Growing
pub mod Named
pub mod Refined
pub mod Steps
pub mod Tails
