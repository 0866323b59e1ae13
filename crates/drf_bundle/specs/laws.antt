-- Theorems about the definitions in the folder above.
pub mod Laws
pub mod ValueLaws
pub mod KeyLaws
pub mod JoinLaws
pub mod FitLaws
pub mod BundleLaws
pub mod SumLaws
pub mod UnitLaws
