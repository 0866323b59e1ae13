pub mod FreeSlotLaws
pub mod SlotLaws
