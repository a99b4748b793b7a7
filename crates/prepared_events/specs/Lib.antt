pub mod Closed
pub mod Entered
pub mod Kept
pub mod Making
pub mod Prepared
pub mod Private
