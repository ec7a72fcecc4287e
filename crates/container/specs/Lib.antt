pub mod Formats
pub mod Container
pub mod Opening
