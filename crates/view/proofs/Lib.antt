pub mod WordLaws
pub mod WordNumbers
