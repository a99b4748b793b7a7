pub mod Values
pub mod Universes
pub mod Operations
pub mod Denotations
pub mod Interpretations
pub mod Laws
