pub mod Brought
pub mod Private
pub mod Texts
pub mod Typings
pub mod Views
