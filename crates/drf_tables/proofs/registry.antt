-- Lemmas on registries, and on the free resources of agents.
pub mod Entries
pub mod Known
pub mod Freed
pub mod Held
pub mod Totals
pub mod Slots
pub mod Changes
