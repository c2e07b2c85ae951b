pub mod Repeats
pub mod Search
