pub mod Walks
pub mod Sweeps
pub mod Served
