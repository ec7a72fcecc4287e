pub mod ScanLaws
pub mod WalkLaws
pub mod FewLaws
pub mod AnswerLaws
