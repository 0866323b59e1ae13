-- The refusal test for a new total: the resources held on the agent.
use Rattle.std.proofs.Common.{◌≡◌, List, Some, ap, arith}
use Rattle.std.specs.Prelude.{not}
use Rattle.std.specs.Cmp.{both_ways}
use Rattle.drf_role.specs.Text.{Text}
use Rattle.drf_bundle.specs.Value.{Point}
use Rattle.drf_bundle.specs.Bundle.{Key, IsBundle, units, rest, covers}
use Rattle.drf_bundle.proofs.theorems.RestLaws.{bundle-rest}
use Rattle.drf_bundle.specs.Taken.{units_of_all}
use Rattle.drf_bundle.proofs.theorems.UnitProofs.{covers_by_units, rest_by_units}
use Rattle.drf_bundle.specs.declared.resource.Resource.{Resource}
use Rattle.drf_rows.specs.Consistent.{IsConsistent}
use Rattle.drf_row_laws.proofs.ConsistentLaws.{bundles-consistent}
use Rattle.drf_rows.specs.Cycle.{free_of}
use Rattle.drf_rows.specs.Holdings.{holdings_of, parts_on}
use Rattle.drf_row_laws.proofs.HoldingsLaws.{each_part}
use Rattle.drf_rows.proofs.TaskLaws.{covers_all-units, units-covers_all}
use Rattle.drf_rows.specs.Tasks.{covers_all}
use Rattle.drf_rows.specs.Totals.{agent_at, is_below_held}
use Rattle.drf_row_laws.proofs.TotalsLaws.{is_agent, bundle_free, units_free, same_name}
use Rattle.drf_rows.specs.declared.rows.AgentRow.{AgentRow}
use Rattle.drf_rows.specs.declared.rows.Rows.{Rows}

-- ---- the held resources

module _ (rows : Rows) (name : Text) (a : AgentRow) (total : List Resource) (consistent : IsConsistent rows)
    (found : agent_at rows name ≡ Some a) (bundle : IsBundle total) where
  abbrev free : List Resource
  free = free_of rows a

  abbrev held : List Resource
  held = rest a.total free

  abbrev parts : List (List Resource)
  parts = parts_on name (holdings_of rows)

  held_bundle : IsBundle held
  held_bundle = bundle-rest a.total free (is_agent rows name a consistent found).total

  held_units : (key : Key) (p : Point) → units held key p ≡ units_of_all parts key p
  held_units key p = omega (
    arith,
    rest_by_units a.total free (is_agent rows name a consistent found).total (bundle_free rows name a consistent found) key p,
    units_free rows name a consistent found key p,
    ap (λ (n : Text). units_of_all (parts_on n (holdings_of rows)) key p) (same_name rows name a consistent found),
  )

  -- a total covers the held resources exactly if it covers all parts together
  pub below_held : not (covers total held) ≡ is_below_held rows name total
  below_held =
      let each = each_part name (holdings_of rows) (bundles-consistent rows consistent) in
      let by_units = covers_by_units total held bundle held_bundle in
      ap not (both_ways (covers total held) (covers_all total parts)
      (λ all. covers_all-units total parts bundle each (λ key p. omega (arith, by_units.0 all key p, held_units key p)))
      (λ all. by_units.1 (λ key p. omega (arith, units-covers_all total parts bundle each all key p, held_units key p))))
