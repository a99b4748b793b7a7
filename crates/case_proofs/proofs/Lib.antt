pub mod Counts
pub mod EndTrees
pub mod Joins
pub mod RowTrees
pub mod Roots
pub mod Signs
pub mod Steps
