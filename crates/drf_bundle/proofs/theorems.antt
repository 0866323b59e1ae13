-- Theorems about the definitions in the folder above.
pub mod ListLaws
pub mod OneLaws
pub mod UnionLaws
pub mod QuantitiesLaws
pub mod BundleLaws
pub mod RestLaws
pub mod KeyLaws
pub mod PartLaws
pub mod UnitProofs
pub mod TakenLaws
pub mod SumLaws
pub mod ValueLaws
