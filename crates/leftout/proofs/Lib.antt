pub mod FillingLaws
pub mod OmittedLaws
pub mod StandsApart
