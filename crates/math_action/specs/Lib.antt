pub mod PrivateMachine
pub mod Faults
pub mod Limits
pub mod PrivateView
