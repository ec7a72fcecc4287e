pub mod Omitted
pub mod LeftOut
pub mod Served
