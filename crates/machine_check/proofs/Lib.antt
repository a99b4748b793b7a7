pub mod Assigned
pub mod Declared
pub mod Events
pub mod Growing
pub mod Machines
pub mod Params
pub mod Targets
pub mod Types
