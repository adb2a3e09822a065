pub mod FreeLists
pub mod Laws
pub mod Made
pub mod Sizes
pub mod Volume
pub mod Worked
