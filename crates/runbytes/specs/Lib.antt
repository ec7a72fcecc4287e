pub mod RunBytes
pub mod Served
