-- What roles consume before and after a change.
use Rattle.std.specs.Prelude.{ℕ, Bool, List, find, Option, Some, None, IfSome}
use Rattle.std.specs.Option.{option_map_or}
use Rattle.drf_role.specs.Text.{Text, same_text}
use Rattle.drf_role.specs.Path.{Path}
use Rattle.drf_rows.specs.Quota.{reserved_in}
use Rattle.drf_rows.specs.declared.rows.AgentRow.{AgentRow}
use Rattle.drf_rows.specs.declared.rows.Rows.{Rows}
use Rattle.drf_gates.specs.quota.Allowance.{Usage, IsConsumptionOf, IsRaisedBy}

-- an amount for each test of roles and each scalar
abbrev pub Amounts : Type 0
Amounts = (Path → Bool) → Text → ℕ

-- roles consume this much more, if consumption is known; it stays known or unknown
abbrev pub IsRaisedIf : Option (List Usage) → Option (List Usage) → Amounts → Type 0
IsRaisedIf None None more = Unit {0}
IsRaisedIf (Some old) (Some new) more = IsRaisedBy old new more
IsRaisedIf None (Some new) more = ⊥
IsRaisedIf (Some old) None more = ⊥

-- what the agent of a name has reserved
abbrev pub reserved_at : List AgentRow → Text → Amounts
reserved_at agents name test label =
    option_map_or (λ (a : AgentRow). reserved_in test label a.total) (find (λ (a : AgentRow). same_text a.name name) agents) 0

-- consumption, if it is known, is what roles consume by the rows
pub record CountsAll (rows : Rows) (consumption : Option (List Usage)) : Type 0 where
  pub each : IfSome consumption (IsConsumptionOf rows)
