-- The effects of accepted events.
pub mod Answered
