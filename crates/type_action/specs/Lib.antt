pub mod Answers
pub mod CoreActions
pub mod Laws
pub mod Private
pub mod Results
pub mod Typings
