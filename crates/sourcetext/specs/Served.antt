pub mod SourcePlaces
