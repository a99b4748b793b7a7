pub mod PrivateEvents
pub mod PrivateMachine
pub mod PrivateNames
pub mod PrivateTyped
