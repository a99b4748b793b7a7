pub mod Alone
pub mod Combining
pub mod Grown
pub mod NewNames
