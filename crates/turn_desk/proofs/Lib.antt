pub mod Logs
pub mod Keeps
pub mod TakenIn
