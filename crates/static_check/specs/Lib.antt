pub mod Laws
pub mod Parts
pub mod PrivateChecks
pub mod PrivateSorting
pub mod Settling
