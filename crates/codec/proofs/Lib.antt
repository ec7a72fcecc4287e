pub mod EachModifier
pub mod ReadableWords
pub mod LegalRecords
pub mod ExamplesHold
pub mod Demand2Met
pub mod Defaulted
