pub mod NumberLaws
pub mod SplitLaws
