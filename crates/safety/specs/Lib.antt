pub mod Program
pub mod Verdict
pub mod Reasons
pub mod Passed
pub mod Demand3
pub mod Lazy
