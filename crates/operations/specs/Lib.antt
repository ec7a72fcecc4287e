pub mod Replayable
pub mod Values
pub mod Served
