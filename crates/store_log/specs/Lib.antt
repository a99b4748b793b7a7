pub mod History
pub mod StoreLog
pub mod Storing
