use Rattle.drf_row_laws.proofs.EntitlementLaws.{entitled_by_units}
use Rattle.drf_laws.proofs.HeldForLaws.{reserved_is_held_by_its_role}
use Rattle.drf_laws.proofs.limits.entitlement_law.Goals as goal

pub returns : goal.returns
returns c = record {
  units = entitled_by_units;
  held = reserved_is_held_by_its_role;
}
