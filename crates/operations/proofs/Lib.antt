pub mod ByteLaws
pub mod RowLaws
pub mod OpLaws
pub mod OperandLaws
