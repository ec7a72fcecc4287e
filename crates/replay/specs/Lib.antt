pub mod Replay
pub mod Served
