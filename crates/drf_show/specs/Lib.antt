-- Definitions of the tables, their text, and what the code stores to compute them.
pub mod Shown
pub mod Aligned
pub mod ShownText
pub mod Showing
pub mod Consuming
pub mod Had
pub mod ShownExamples
