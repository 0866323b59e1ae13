-- The definitions that the contracts of this crate use.
pub mod Walk
pub mod Marks
pub mod Family
pub mod Nodes
pub mod Places
pub mod Tree
pub mod Queue
pub mod Changes
pub mod Booked
pub mod Ledger
pub mod Sorter
pub mod Lines
pub mod Tidy
