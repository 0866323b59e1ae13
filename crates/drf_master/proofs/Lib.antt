-- Lemmas about journals, receipts and drives.
pub mod Tallying
pub mod Paths
pub mod Runs
pub mod Scripts
pub mod Closing
pub mod Followers
pub mod laws
