-- Lemmas on the rows that the fields of the tables mean.
pub mod Names
pub mod Standing
pub mod PutBack
pub mod Kept
pub mod Fields
pub mod Weighed
pub mod Copies
