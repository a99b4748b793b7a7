pub mod Characters
pub mod Levels
pub mod Operators
pub mod Tokens
pub mod Grammar
pub mod Actions
pub mod Private
