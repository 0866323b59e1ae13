-- Theorems about the definitions of this crate.
pub mod FractionLaws
pub mod ShareLaws
pub mod Laws
