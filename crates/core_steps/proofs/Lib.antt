pub mod Alls
pub mod Cases
mod Counted
mod Decided
mod Known
mod Growing
mod Late
pub mod Lists
pub mod NameMaps
pub mod OneWay
pub mod Projects
mod Rebuilt
mod Removed
mod Restoring
mod Sorted
pub mod SortedMaps
mod Sorts
