-- The definitions that the contracts of this crate use.
pub mod Content
pub mod Work
pub mod Passed
pub mod Fractions
pub mod Share
pub mod Keys
pub mod Plain
pub mod Candidates
pub mod Served
pub mod Lines
pub mod laws
pub mod examples
