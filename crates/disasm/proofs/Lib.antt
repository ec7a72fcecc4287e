pub mod PlaceLaws
pub mod SignLaws
