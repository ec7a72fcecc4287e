pub mod LowestLaws
