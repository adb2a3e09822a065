pub mod CallText
pub mod Laws
pub mod Writable
pub mod Worked
