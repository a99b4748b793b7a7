pub mod Told
pub mod Typed
pub mod UnknownNames
pub mod Standing
