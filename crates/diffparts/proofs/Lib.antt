pub mod PartLaws
pub mod SingleLaws
