pub mod Advancing
pub mod Laws
pub mod Looking
pub mod Midway
pub mod NeedLaws
pub mod TreeLaws
pub mod Worked
