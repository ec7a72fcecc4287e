pub mod RoundTrip
pub mod RoomLaws
pub mod WordLaws
pub mod WriterLaws
