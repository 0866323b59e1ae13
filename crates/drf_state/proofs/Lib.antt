-- Lemmas that the proofs of this crate use.
pub mod Placed
pub mod Ends
pub mod Spoken
pub mod Fits
pub mod Going
pub mod Lines
pub mod Written
pub mod Meant
pub mod Plain
pub mod Readable
pub mod Sayable
pub mod theorems
