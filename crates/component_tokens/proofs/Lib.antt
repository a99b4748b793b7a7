pub mod Gaps
pub mod Walk
pub mod OneWay
