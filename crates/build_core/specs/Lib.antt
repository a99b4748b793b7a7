pub mod Laws
pub mod Moved
pub mod Private
pub mod PrivateBuilders
pub mod Prints
pub mod Projects
pub mod Tables
