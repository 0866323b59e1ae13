-- Theorems about the definitions of saved rows, from which the statements in `SavedLaws` follow.
pub mod Apart
pub mod Epochs
pub mod Faults
pub mod Listed
pub mod Put
pub mod Room
pub mod Runs
pub mod Saveable
pub mod Taken
