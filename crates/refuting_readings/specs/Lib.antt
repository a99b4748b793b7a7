pub mod Refutations
