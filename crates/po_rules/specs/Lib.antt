pub mod Gathering
pub mod Laws
pub mod Members
pub mod Parts
pub mod Rows
pub mod Sequents
pub mod Tables
