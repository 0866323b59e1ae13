-- Lemmas on agents and frameworks that are added, changed or removed.
pub mod Registered
pub mod Changes
pub mod Roles
