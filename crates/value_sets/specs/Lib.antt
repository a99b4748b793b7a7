pub mod Private
pub mod Sets
