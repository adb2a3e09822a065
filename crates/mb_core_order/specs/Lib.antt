pub mod EventLaws
pub mod Readings
