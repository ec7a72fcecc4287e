pub mod Tracks
pub mod Plan
