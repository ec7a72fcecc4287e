pub mod FormatLaws
pub mod OpeningLaws
pub mod NumberedLaws
