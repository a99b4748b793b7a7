pub mod Formulas
pub mod Complete
pub mod Sound
pub mod Small
pub mod Place
pub mod Outcomes
