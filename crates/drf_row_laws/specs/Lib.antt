-- Theorems about the definition, on which the proofs of the code depend.
pub mod WeightLaws
pub mod LimitLaws
pub mod ReservationLaws
pub mod QuotaLaws
pub mod EntitlementLaws
pub mod Laws
pub mod LifeLaws
