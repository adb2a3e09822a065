pub mod Held
mod Ranges
mod Lists
