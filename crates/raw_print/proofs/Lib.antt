pub mod Equations
pub mod Texts
pub mod Weights
pub mod Grades
pub mod Proper
pub mod Spelled
pub mod ActionsSpelled
