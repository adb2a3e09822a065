pub mod Indexes
pub mod InodeTables
pub mod Passes
pub mod PartLists
pub mod Findings
pub mod Surveyed
