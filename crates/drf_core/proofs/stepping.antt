-- Lemmas on whole steps and runs.
pub mod Filters
pub mod Safe
pub mod Work
pub mod Step
pub mod Allowance
pub mod Saveable
