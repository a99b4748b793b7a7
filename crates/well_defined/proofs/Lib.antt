pub mod Connectives
pub mod Equations
pub mod Identifiers
pub mod Tops
pub mod Types
pub mod Wellness
