pub mod CodeLaws
pub mod AnswerLaws
pub mod PromiseLaws
pub mod TextLaws
