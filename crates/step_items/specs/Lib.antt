pub mod Hints
pub mod Items
pub mod Numbers
pub mod Paths
pub mod Private
pub mod Terms
