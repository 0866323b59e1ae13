-- Lemmas about the chains and prefixes of a board's history.
pub mod Prefixes
pub mod Chaining
pub mod HistoryLaws
