pub mod Opcodes
pub mod Served
