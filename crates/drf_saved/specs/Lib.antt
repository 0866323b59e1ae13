-- Definitions of saved states.
pub mod Fault
pub mod Saved
pub mod Epoch
