pub mod ReplayCode
