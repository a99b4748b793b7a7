pub mod Lists
pub mod Calls
pub mod Events
pub mod Obligations
pub mod Tables
pub mod Texts
pub mod Declared
pub mod Checked
