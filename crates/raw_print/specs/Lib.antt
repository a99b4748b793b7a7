pub mod Printing
pub mod Back
pub mod Private
