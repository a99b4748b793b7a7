pub mod Known
pub mod Readers
