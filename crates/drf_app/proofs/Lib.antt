-- Lemmas about the command line.
mod Entered
mod Flushed
mod Started
mod Bounds
pub mod Live
pub mod Wrote
pub mod Feeds
pub mod Left
