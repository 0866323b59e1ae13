-- Proofs of the theorems: how the content of a sorter follows changes of the rows, and what it says about the rows.
pub mod Back
pub mod Changed
pub mod Client
pub mod Ended
pub mod Held
pub mod Members
pub mod Offer
pub mod Order
pub mod Put
pub mod Registered
pub mod Removed
pub mod Report
pub mod RolesSet
pub mod Same
pub mod Sound
