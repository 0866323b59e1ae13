-- Events that change agents' totals: reserving, unreserving, and setting a new total.
use Rattle.std.specs.Prelude.{◌≡◌, ℕ, ◌+◌, ◌≤◌, max, Bool, List, map, slice_get, Some, None, IsTrue}
use Rattle.std.proofs.Common.{cond}
use Rattle.drf_role.specs.Text.{Text}
use Rattle.drf_role.specs.Path.{Path}
use Rattle.drf_role.specs.Parts.{parts_of, text_of}
use Rattle.drf_role.specs.Role.{IsRole}
use Rattle.drf_bundle.specs.Quantities.{amount_of, is_named}
use Rattle.drf_bundle.specs.Bundle.{IsBundle, quantities_of}
use Rattle.drf_bundle.specs.declared.resource.Resource.{Resource}
use Rattle.drf_rows.specs.LimitNumbers.{LimitNumbers}
use Rattle.drf_rows.specs.Consistent.{IsConsistent, IsConserved}
use Rattle.drf_rows.specs.Quota.{consumption_where, consumption}
use Rattle.drf_rows.specs.Step.{refusal_of, effect}
use Rattle.drf_rows.specs.Totals.{agent_at}
use Rattle.drf_rows.specs.declared.event.Event.TheVariants.{SetAgent, Reserve, Unreserve}
use Rattle.drf_rows.specs.declared.rows.AgentRow.{AgentRow}
use Rattle.drf_rows.specs.declared.rows.LimitRow.{LimitRow}
use Rattle.drf_rows.specs.declared.rows.Rows.{Rows}

-- ---- the statements

-- the resources and the role of an event are valid
pub record IsAsked (role : Path) (resources : List Resource) : Type 0 where
  pub bundle : IsBundle resources
  pub is_role : IsRole role
  pub role_read : parts_of (text_of role) ≡ role

-- reserving and then unreserving restores the state
abbrev pub ReservedIsGivenBack : Type 0
ReservedIsGivenBack =
    (limits : LimitNumbers) (rows : Rows) (agent : Text) (role : Path) (resources : List Resource)
    → IsConsistent rows
    → IsAsked role resources
    → refusal_of limits rows (Reserve agent role resources) ≡ None
    → effect (effect rows (Reserve agent role resources)) (Unreserve agent role resources) ≡ rows

-- reserving takes no role over its limit
abbrev pub ReservingKeepsLimits : Type 0
ReservingKeepsLimits =
    (limits : LimitNumbers) (rows : Rows) (agent : Text) (role : Path) (resources : List Resource)
    (label : Text) (place : ℕ) (l : LimitRow)
    → IsConsistent rows
    → IsAsked role resources
    → refusal_of limits rows (Reserve agent role resources) ≡ None
    → slice_get rows.limits place ≡ Some l
    → IsTrue (is_named l.limit label)
    → consumption (effect rows (Reserve agent role resources)) l.role label ≤ max (amount_of l.limit label) (consumption rows l.role label)

-- reserved resources are consumed by the role and the roles above it; unreserved ones no longer
abbrev pub MovedIsConsumed : Type 0
MovedIsConsumed =
    (limits : LimitNumbers) (rows : Rows) (agent : Text) (role : Path) (resources : List Resource)
    (test : Path → Bool) (label : Text)
    → IsConsistent rows
    → IsAsked role resources
    → let moved : ℕ = cond (test role) (amount_of (quantities_of resources) label) 0 in
    (refusal_of limits rows (Reserve agent role resources) ≡ None
    → consumption_where test (effect rows (Reserve agent role resources)) label ≡ consumption_where test rows label + moved)
    × (refusal_of limits rows (Unreserve agent role resources) ≡ None
    → consumption_where test (effect rows (Unreserve agent role resources)) label + moved ≡ consumption_where test rows label)

-- an agent that gets a new total keeps its name, its place, its activity and everything that is held there: the new
-- total is the free resources afterwards, joined with the held resources. Nothing else in the state changes
abbrev pub ChangedAgentKeepsAll : Type 0
ChangedAgentKeepsAll =
    (limits : LimitNumbers) (rows : Rows) (agent : Text) (total : List Resource) (row : AgentRow)
    → IsConsistent rows
    → IsBundle total
    → agent_at rows agent ≡ Some row
    → refusal_of limits rows (SetAgent agent total) ≡ None
    → let after : Rows = effect rows (SetAgent agent total) in
    let changed : AgentRow = record row { total = total } in
    (after ≡ record rows { agents = after.agents })
    × (agent_at after agent ≡ Some changed)
    × (map (λ a. a.name) after.agents ≡ map (λ a. a.name) rows.agents)
    × (map (λ a. a.active) after.agents ≡ map (λ a. a.active) rows.agents)
    × IsConserved after changed
