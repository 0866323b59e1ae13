-- What a master, its passes and its drives do, as their contracts describe it.
pub mod Receipts
pub mod Matching
pub mod Tallies
pub mod Journal
pub mod Calling
pub mod Closing
pub mod Scripts
