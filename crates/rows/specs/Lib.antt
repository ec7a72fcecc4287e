pub mod Kinds
pub mod Rows
pub mod Layout
pub mod Sources
pub mod Names
pub mod Served
