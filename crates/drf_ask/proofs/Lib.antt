-- Lemmas that the proofs of this crate use.
pub mod Answers
pub mod Written
pub mod Kept
pub mod Steps
pub mod Pieces
pub mod Ends
pub mod Texts
pub mod Clients
pub mod Words
pub mod Numbers
pub mod Machines
pub mod Tables
