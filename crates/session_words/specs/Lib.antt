pub mod Lines
pub mod Private
pub mod Reading
pub mod Says
