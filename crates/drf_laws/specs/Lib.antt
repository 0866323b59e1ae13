-- Statements about events, turns and runs of the definition. Their proofs are in `laws`.
pub mod ConsumptionLaws
pub mod MovingLaws
pub mod KeptLimitLaws
pub mod HeldForLaws
pub mod Kept
pub mod KeptLaws
pub mod EventLaws
pub mod TurnLaws
pub mod KnownLaws
pub mod FilterLaws
pub mod RunLaws
pub mod RoleChangeLaws
pub mod BoundLaws
