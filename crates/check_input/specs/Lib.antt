pub mod Headings
pub mod Inputs
pub mod Laws
pub mod Lines
pub mod PrivateCutting
pub mod PrivateParts
