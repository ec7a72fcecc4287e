pub mod FaultLaws
pub mod ReadyLaws
pub mod AnswerLaws
pub mod NumberedLaws
