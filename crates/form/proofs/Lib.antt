pub mod OffsetLaws
pub mod FormLaws
