-- The definitions of slots and hashes, and lemmas about slots.
pub mod Reading
pub mod Slots
pub mod SlotLaws
