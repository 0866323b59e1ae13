-- Dirty flags.
pub mod Flags
pub mod Waiting
pub mod Count
