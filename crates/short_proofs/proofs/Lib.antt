pub mod Built
pub mod Comparisons
pub mod Forms
pub mod Plain
pub mod Steps
pub mod Sums
pub mod Trees
