pub mod ReadLaws
pub mod CourseLaws
pub mod PromisesMet
pub mod LazyReplays
