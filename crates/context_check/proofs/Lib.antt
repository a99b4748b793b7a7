pub mod Clashes
pub mod Contexts
pub mod Copied
pub mod Distinct
pub mod Repeated
pub mod Seen
pub mod Typings
pub mod Views
