pub mod Machine
pub mod Faults
pub mod View
pub mod Limits
pub mod PrivateReaders
pub mod PrivateView
