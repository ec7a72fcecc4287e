pub mod NanLaws
pub mod Signs
pub mod RoundingLaws
pub mod Identities
pub mod ClampLaws
pub mod PromisesMet
pub mod WrongAdditions
