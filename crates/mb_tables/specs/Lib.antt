pub mod Follows
pub mod TableLaws
