-- Lemmas on offers and tasks that end.
pub mod Ended
pub mod Accepted
