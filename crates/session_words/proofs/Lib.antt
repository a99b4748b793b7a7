pub mod Calls
pub mod Names
pub mod OneWay
pub mod Readings
pub mod Saying
