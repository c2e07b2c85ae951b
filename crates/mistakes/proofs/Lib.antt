pub mod Pinned
pub mod Computed
pub mod Mistakes
