-- What values, bundles and quantities are, and theorems about them.
pub mod Bundle
pub mod KeyPlaces
pub mod Quantities
pub mod Value
pub mod Sides
pub mod Taken
pub mod Union
pub mod laws
