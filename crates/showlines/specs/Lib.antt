pub mod Lines
pub mod Served
