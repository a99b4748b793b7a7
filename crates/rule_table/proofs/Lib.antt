pub mod Conditions
pub mod InOrder
pub mod Numbers
pub mod SameKind
