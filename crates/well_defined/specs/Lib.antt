pub mod Conditions
pub mod Connectives
pub mod Laws
pub mod Predicates
