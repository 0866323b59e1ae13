-- Theorems about the definitions of this crate.
pub mod LineLaws
pub mod OrderLaws
pub mod PassedLaws
pub mod PermutationLaws
pub mod SameLaws
pub mod SortedLaws
pub mod SpendLaws
pub mod FractionLaws
