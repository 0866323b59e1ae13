-- Lemmas about joins, parts and pools, and computed examples.
mod Examples
pub mod Joined
pub mod Kept
pub mod Numbered
pub mod Split
