pub mod Assembly
pub mod Served
