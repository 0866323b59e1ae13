-- What is true of each turn, and so of each cycle.
use Rattle.std.specs.Prelude.{◌≡◌, ℕ, ◌+◌, ◌*◌, ◌≤◌, true, false, List, length, filter, Some}
use Rattle.std.specs.List.{AllByRecursion}
use Rattle.drf_role.specs.Text.{same_text}
use Rattle.drf_bundle.specs.Value.{Point}
use Rattle.drf_bundle.specs.Bundle.{Key, IsBundle, units}
use Rattle.drf_bundle.specs.declared.resource.Resource.{Resource}
use Rattle.drf_rows.specs.Client.{Client}
use Rattle.drf_rows.specs.Cycle.{free_of, grant, all_tried, turn_order, cycle}
use Rattle.drf_rows.specs.Held.{clients_of, is_registered}
use Rattle.drf_rows.specs.declared.rows.AgentRow.{AgentRow}
use Rattle.drf_rows.specs.declared.rows.Rows.{Rows}

-- a turn tries only registered clients
abbrev pub ServedAreRegistered : Type 0
ServedAreRegistered = (rows : Rows) → AllByRecursion (λ c. is_registered rows.frameworks c ≡ true) (turn_order rows)

-- a turn tries at most as many clients as are registered
abbrev pub ServedAreFew : Type 0
ServedAreFew = (rows : Rows) → length (turn_order rows) ≤ length (clients_of rows)

-- the bundle is a part of the free bundle
pub record IsPart (bundle free : List Resource) : Type 0 where
  pub bundle_is : IsBundle bundle
  pub small : (key : Key) (p : Point) → units bundle key p ≤ units free key p

-- a grant is a part of the free resources of the agent
abbrev pub GrantsArePart : Type 0
GrantsArePart =
    (rows : Rows) (agent : AgentRow) (client : Client) (bundle : List Resource)
    → IsBundle agent.total
    → grant rows agent client ≡ Some bundle
    → IsPart bundle (free_of rows agent)

-- a cycle makes at most as many offers as there are active agents, times the number of clients
abbrev pub CyclesMakeFewOffers : Type 0
CyclesMakeFewOffers =
    (rows : Rows) (at : ℕ)
    → (cycle rows at).next_offer ≤ rows.next_offer + length (filter (λ a. a.active) rows.agents) * length (clients_of rows)

-- trying clients on one agent leaves the free resources of other agents unchanged
abbrev pub OtherAgentsStayFree : Type 0
OtherAgentsStayFree =
    (rows : Rows) (agent : AgentRow) (clients : List Client) (other : AgentRow)
    → same_text agent.name other.name ≡ false
    → free_of (all_tried rows agent clients) other ≡ free_of rows other
