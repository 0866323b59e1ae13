-- The definitions of what texts of bundles, quantities and weights mean, and of how they are written.
pub mod Blanks
pub mod Faults
pub mod Meaning
pub mod Number
pub mod Pieces
pub mod RoundTrip
pub mod Steps
pub mod Written
