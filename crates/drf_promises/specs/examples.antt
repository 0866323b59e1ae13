-- Runs that are computed from the definition: one for each promise, and one for each expectation that fails.
pub mod PromiseExamples
