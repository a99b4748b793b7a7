pub mod Equations
pub mod Tokens
pub mod Spelled
pub mod Actions
pub mod Induction
pub mod Twice
