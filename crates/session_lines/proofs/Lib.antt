pub mod Blanks
pub mod Cuts
pub mod Readings
pub mod Scanned
