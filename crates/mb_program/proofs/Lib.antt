pub mod CheckLemmas
pub mod Endings
pub mod JobLemmas
pub mod Refusals
pub mod Runs
pub mod Survivors
pub mod Words
pub mod Threads
