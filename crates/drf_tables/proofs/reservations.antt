-- Lemmas on agents whose totals change.
pub mod Moved
