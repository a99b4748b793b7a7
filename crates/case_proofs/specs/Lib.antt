pub mod Cases
pub mod PrivateRows
pub mod PrivateSearch
pub mod PrivateWays
