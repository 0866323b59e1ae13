-- Siblings in the order of their keys, and keys that are computed again.
pub mod Siblings
pub mod Turned
pub mod Order
pub mod Renew
pub mod Repair
pub mod Stale
pub mod Nothing
