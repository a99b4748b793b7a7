pub mod PrivateProofs
pub mod Trees
