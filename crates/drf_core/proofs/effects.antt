-- What the tables and the sorter hold after accepted events.
pub mod Moved
pub mod Weighed
pub mod Registered
pub mod Ended
pub mod Accepted
pub mod Answered
pub mod Known
pub mod Once
pub mod RolesSet
