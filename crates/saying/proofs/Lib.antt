pub mod EntryLaws
pub mod NameLaws
