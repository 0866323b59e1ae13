-- Statements of the promises. Their proofs are in `laws`, and computed runs in `examples`.
pub mod Runs
pub mod Cycles
pub mod Siblings
pub mod Apart
pub mod Sharing
pub mod Waiting
pub mod Passes
pub mod Frameworks
pub mod Overtaken
pub mod examples
