pub mod Causes
mod Closing
mod CutEdits
mod Endings
mod Openings
mod Standing
pub mod Unhindered
pub mod Throughout
mod Users
mod Whole
