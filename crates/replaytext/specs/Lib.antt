pub mod ReplayText
