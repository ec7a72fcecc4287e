pub mod Enumerations
pub mod Served
