pub mod LineLaws
pub mod NumberLaws
pub mod ListingLaws
pub mod AskedLaws
pub mod CutLaws
