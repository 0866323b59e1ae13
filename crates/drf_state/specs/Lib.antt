-- The definitions of the text of a state and of reading it, and the theorems about it.
pub mod Fault
pub mod State
pub mod Read
pub mod Valid
pub mod StateLaws
pub mod LinedText
pub mod Restored
pub mod Placing
pub mod Reading
pub mod laws
