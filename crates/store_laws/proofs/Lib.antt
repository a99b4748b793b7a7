pub mod Readings
pub mod Values
pub mod Trees
pub mod Spelling
pub mod Projects
pub mod Histories
