pub mod RuleWords
pub mod Private
