-- The lemmas of this crate.
pub mod PrefixLemmas
pub mod SumLemmas
pub mod PlainLemmas
pub mod ShareLemmas
pub mod KeyLemmas
pub mod ChangeLemmas
pub mod OrderLemmas
pub mod WeightLemmas
pub mod SiblingLemmas
pub mod WeighingLemmas
pub mod ArrivalLemmas
pub mod EffectLemmas
pub mod ServedLemmas
pub mod TurnLemmas
pub mod LineLemmas
pub mod BehindLemmas
pub mod theorems
