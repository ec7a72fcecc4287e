pub mod Passing
pub mod Told
pub mod Inference
