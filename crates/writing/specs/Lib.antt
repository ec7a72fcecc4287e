pub mod Writer
pub mod Served
