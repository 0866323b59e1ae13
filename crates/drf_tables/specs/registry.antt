-- Registries of agents and frameworks, and changes of their entries.
pub mod Changing
pub mod Registered
