pub mod FormRules
pub mod Meaning
pub mod Named
pub mod Numbers
pub mod Once
