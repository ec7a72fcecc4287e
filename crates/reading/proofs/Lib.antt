pub mod StrayLaws
pub mod FixedLaws
pub mod WindowLaws
pub mod SourceBytes
pub mod NumberedLaws
pub mod StrayNamed
