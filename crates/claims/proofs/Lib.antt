pub mod FrontLaws
pub mod Claims
