pub mod Beginning
pub mod Callings
