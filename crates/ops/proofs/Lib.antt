pub mod ReversalLaws
pub mod RowLaws
