-- Lemmas on what roles consume.
pub mod Counts
pub mod Recounted
pub mod Running
