pub mod Lists
pub mod Answers
pub mod Instructions
pub mod Legality
pub mod Defaults
pub mod Registers
pub mod Served
