pub mod Changed
pub mod ErrorNames
pub mod Image
pub mod Own
pub mod Texts
