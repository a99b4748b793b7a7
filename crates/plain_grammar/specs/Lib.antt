pub mod Plain
pub mod OpenType
