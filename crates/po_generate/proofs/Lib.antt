pub mod Counted
pub mod OneList
pub mod Parts
pub mod Rows
