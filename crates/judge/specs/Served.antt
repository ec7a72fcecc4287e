pub mod Judge
pub mod Windows
