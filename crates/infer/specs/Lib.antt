pub mod Inference
pub mod Asked
pub mod Lazy
pub mod Served
