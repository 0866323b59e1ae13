-- Lemmas about walking through two sets side by side, and about intervals and names.
pub mod Answered
pub mod Found
pub mod Members
pub mod Merged
pub mod Names
pub mod Steps
pub mod IntervalLaws
pub mod ListedLaws
pub mod SweepLemmas
