pub mod Text
pub mod Name
