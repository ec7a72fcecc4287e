pub mod Container
pub mod Opening
pub mod Program
pub mod Verdict
pub mod Demand3
pub mod Same
