pub mod Steps
pub mod Served
