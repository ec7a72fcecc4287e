pub mod Sweeps
pub mod Served
