-- Lemmas on running cycles and on their explanation.
pub mod Drafts
pub mod Tried
pub mod Granted
pub mod Turn
pub mod Told
pub mod Cycle
pub mod Closed
pub mod Near
pub mod Barred
