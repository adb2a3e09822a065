pub mod FirstRules
pub mod Marking
