pub mod Promises
pub mod Lazy
