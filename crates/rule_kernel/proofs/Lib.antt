pub mod Appended
pub mod Distinct
pub mod Grown
pub mod InOrder
pub mod SoundParts
