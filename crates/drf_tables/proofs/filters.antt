-- Lemmas on expired filters.
pub mod Spent
