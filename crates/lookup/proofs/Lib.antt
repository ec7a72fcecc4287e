pub mod IndexLaws
pub mod LineLaws
