pub mod Grades
pub mod Back
