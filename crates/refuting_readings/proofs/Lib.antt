pub mod Atoms
pub mod Deciding
pub mod Refuting
