pub mod Modifiers
pub mod Counts
pub mod Sources
