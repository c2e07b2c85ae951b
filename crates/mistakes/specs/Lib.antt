pub mod Wrong
pub mod Mistakes
