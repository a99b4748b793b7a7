pub mod Members
pub mod PrivateChildren
pub mod Provers
pub mod Sequents
pub mod Trees
