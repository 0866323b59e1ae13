-- Lemmas for the contracts of the lint.
pub mod Kept
pub mod Judges
pub mod Pieces
pub mod Streams
