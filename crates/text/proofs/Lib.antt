pub mod TextLaws
pub mod NameLaws
