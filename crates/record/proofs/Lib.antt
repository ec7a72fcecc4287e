pub mod RegisterLaws
pub mod ModifierLaws
pub mod DefaultLaws
pub mod NumberLaws
pub mod LegalLaws
pub mod ShapeLaws
pub mod NumberedLaws
