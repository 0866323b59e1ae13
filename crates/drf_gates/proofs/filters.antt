-- What is held back from whom.
pub mod Chains
pub mod FreeSlots
pub mod Held
