-- Theorems about saved rows, and examples.
pub mod SavedLaws
pub mod examples
