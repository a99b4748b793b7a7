pub mod Included
pub mod Tightness
pub mod Paths
pub mod Accepted
pub mod OpenTypes
