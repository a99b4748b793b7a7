pub mod Commands
pub mod Private
pub mod Reading
pub mod Words
