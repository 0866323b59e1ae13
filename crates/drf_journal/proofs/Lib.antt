-- Lemmas that the proofs of this crate use.
pub mod Cuts
pub mod Kept
pub mod Pieces
pub mod Prefixes
pub mod Waits
pub mod Devices
pub mod Texts
pub mod Parts
pub mod Served
pub mod Pairs
pub mod Checks
pub mod Verdicts
pub mod ReplyLines
pub mod Resumes
pub mod Glues
pub mod Audits
pub mod Advances
