pub mod Records
pub mod Opening
pub mod Store
pub mod Moments
pub mod Private
pub mod Marks
