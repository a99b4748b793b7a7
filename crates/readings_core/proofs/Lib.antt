pub mod Fitting
pub mod Following
pub mod Lookups
pub mod NumberSteps
pub mod Places
pub mod TruthSteps
pub mod Unplain
pub mod Wide
