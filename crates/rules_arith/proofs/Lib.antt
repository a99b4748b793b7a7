pub mod Atoms
pub mod Forms
pub mod Narrow
pub mod Rewriting
pub mod Steps
pub mod Widths
