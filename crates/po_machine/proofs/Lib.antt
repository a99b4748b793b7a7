pub mod Gathering
pub mod EachBefore
pub mod Lists
pub mod Sets
pub mod Wanting
