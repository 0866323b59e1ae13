-- Definitions and theorems of explanations.
pub mod Explained
pub mod Each
pub mod EachLaws
pub mod ExplainedText
pub mod ExplainedLaws
pub mod ExplainedExamples
pub mod Gates
pub mod ReasonLaws
