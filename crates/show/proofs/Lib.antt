pub mod ShowLaws
pub mod FrontLaws
