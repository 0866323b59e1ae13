-- The cases in which an event is refused.
pub mod Accepting
pub mod Cases
