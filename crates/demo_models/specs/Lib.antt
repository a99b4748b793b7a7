pub mod Models
pub mod Private
