-- Lemmas about reading files and writing journals.
pub mod Cuts
pub mod Contents
pub mod Scripts
pub mod Sent
pub mod Releases
