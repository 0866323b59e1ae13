-- Lemmas that other crates use.
pub mod DraftLaws
