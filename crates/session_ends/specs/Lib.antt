pub mod Ends
pub mod Limits
pub mod Moments
pub mod Private
pub mod Sessions
pub mod Statuses
pub mod Written
