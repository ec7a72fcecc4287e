pub mod FillLaws
pub mod PackLaws
pub mod NumberedLaws
