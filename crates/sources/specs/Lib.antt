pub mod SourceMeaning
