pub mod CodedLaws
pub mod ModifierLaws
