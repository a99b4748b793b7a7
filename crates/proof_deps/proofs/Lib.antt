pub mod Carried
pub mod Envs
pub mod Narrowing
pub mod Possible
pub mod RuleNames
pub mod Typed
pub mod Ways
