pub mod Longest
pub mod Fronts
pub mod Walk
pub mod OneWay
pub mod Groups
