-- Lemmas for the proofs of the core.
pub mod drafting
pub mod effects
pub mod refusing
pub mod stepping
pub mod MachineLaws
