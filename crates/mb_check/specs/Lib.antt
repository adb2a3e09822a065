pub mod Directories
pub mod NameSets
pub mod ParentTests
pub mod Reaching
pub mod SlotTests
pub mod Tallies
pub mod Whole
