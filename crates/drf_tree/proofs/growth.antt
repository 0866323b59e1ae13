-- Adding and removing nodes.
pub mod With
pub mod Shape
pub mod Vacant
pub mod Wither
pub mod Bare
pub mod Sprout
pub mod Grow
pub mod Tidy
pub mod Place
