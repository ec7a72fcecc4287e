pub mod Fields
pub mod Bytes
pub mod Sets
pub mod Halves
pub mod Outcomes
pub mod Signed
pub mod Lists
