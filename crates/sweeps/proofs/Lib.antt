pub mod ByteLaws
pub mod SameLaws
pub mod SweepLaws
pub mod TrackLaws
pub mod PlanLaws
pub mod LoopLaws
