pub mod SameVerdict
pub mod Demand3Met
pub mod LazyChecks
