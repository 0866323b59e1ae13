-- Filters: what is held back from which client.
pub mod Chains
pub mod Index
pub mod Laws
pub mod Slots
