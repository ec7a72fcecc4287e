pub mod Reader
pub mod Stray
