pub mod StepLaws
pub mod ReplayingLaws
pub mod FrontLaws
