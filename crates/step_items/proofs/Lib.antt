pub mod Cutting
pub mod Digits
pub mod Gathering
pub mod Marks
pub mod OneWay
pub mod Parts
