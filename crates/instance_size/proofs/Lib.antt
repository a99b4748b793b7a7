pub mod AllFit
pub mod Extents
pub mod GrowingRows
pub mod InstantiatedExtents
pub mod ListedMembers
pub mod ReplacedExtents
