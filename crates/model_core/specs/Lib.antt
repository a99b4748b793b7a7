pub mod Borrowed
pub mod Components
pub mod Each
pub mod Faults
pub mod Refined
