-- A cycle while its offers are drafts, and its explanation.
pub mod Drafting
pub mod Entitling
pub mod Explaining
