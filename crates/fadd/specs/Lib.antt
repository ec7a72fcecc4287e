pub mod Single
pub mod Rounding
pub mod Promises
pub mod Wrong
