pub mod TestLaws
pub mod JudgeLaws
