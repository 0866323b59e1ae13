pub mod EndedLaws
pub mod OfferedLaws
pub mod SuppressionLaws
pub mod theorems
pub mod ConsumptionLaws
pub mod MovingLaws
pub mod HeldForLaws
pub mod KeptLimitLaws
