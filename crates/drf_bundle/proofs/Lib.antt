-- Lemmas for the loops and searches of the code.
mod ChangeLemmas
mod ClashLemmas
mod FirstLemmas
mod LeftLemmas
mod PlaceLemmas
mod PushLemmas
mod RestLemmas
pub mod MergeLemmas
pub mod NameLemmas
pub mod SearchLemmas
pub mod SumLemmas
pub mod ValueAnswers
pub mod theorems
pub mod ListLaws
