pub mod KeyedLaws
pub mod SlotLaws
pub mod OpcodeLaws
pub mod RunLaws
