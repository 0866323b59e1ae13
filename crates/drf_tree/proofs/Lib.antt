-- The lemmas of this crate.
pub mod Names
pub mod keys
pub mod sums
pub mod shape
pub mod growth
pub mod change
