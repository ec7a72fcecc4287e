pub mod Run
pub mod Served
