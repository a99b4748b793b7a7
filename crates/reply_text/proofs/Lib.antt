pub mod Hyps
pub mod Joining
pub mod Nodes
pub mod ShownWell
