pub mod EntryLaws
pub mod PackedLaws
pub mod NumberedLaws
pub mod ProposeLaws
pub mod AskedLaws
pub mod InferLaws
pub mod LazyMakers
