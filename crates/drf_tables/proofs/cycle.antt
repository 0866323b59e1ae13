-- Lemmas on the offers of a cycle.
pub mod Appended
pub mod Counted
