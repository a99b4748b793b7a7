pub mod Private
pub mod Reads
pub mod Streams
