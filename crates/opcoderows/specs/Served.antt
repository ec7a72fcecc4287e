pub mod Keyed
pub mod Slots
pub mod Runs
