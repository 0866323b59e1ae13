-- Lemmas about texts, their parts, paths and labels.
pub mod SpanLemmas
pub mod PathLemmas
pub mod OrderLemmas
pub mod ClientLemmas
pub mod LabelTextLemmas
pub mod PartLaws
pub mod RoleLaws
pub mod TestLaws
pub mod PathLaws
pub mod TextLaws
