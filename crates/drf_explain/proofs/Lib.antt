-- Lemmas for the contracts of explanations.
mod Found
mod Reasons
mod Rooms
pub mod ExplainedLaws
pub mod EachLaws
