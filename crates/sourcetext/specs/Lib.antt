pub mod SourceText
pub mod Served
