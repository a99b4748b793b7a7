pub mod Pieces
pub mod Spacing
