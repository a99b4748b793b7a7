pub mod Lists
pub mod Substitution
pub mod States
pub mod Theorems
pub mod Steps
pub mod Reached
