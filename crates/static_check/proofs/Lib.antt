pub mod Beside
pub mod Maps
pub mod OneOutcome
pub mod OneWay
pub mod Ordering
pub mod Turns
