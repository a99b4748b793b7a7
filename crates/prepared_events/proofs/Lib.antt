pub mod EnteredParts
pub mod StillClosed
