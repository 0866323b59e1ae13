-- The promise to a node that holds nothing: it is not passed over for ever.
use Rattle.std.specs.Prelude.{◌≡◌, ℕ, ◌+◌, ◌-◌, ◌≤◌, ◌==◌, Bool, ◌&&◌, ⊤, List, [], ◌∷◌, is_some, sum_by, if◌then◌else◌}
use Rattle.std.specs.List.{AllByRecursion, list_any}
use Rattle.std.specs.Option.{option_map_or}
use Rattle.drf_role.specs.Path.{Path, begins_with}
use Rattle.drf_role.specs.Text.{Text}
use Rattle.drf_rows.specs.Client.{path_of}
use Rattle.drf_rows.specs.Consistent.{IsConsistent}
use Rattle.drf_rows.specs.Cycle.{at_timestamp, grant, turn}
use Rattle.drf_rows.specs.Held.{active_clients, count_of}
use Rattle.drf_rows.specs.LimitNumbers.{LimitNumbers}
use Rattle.drf_rows.specs.Step.{refusal_of, rows_after, rows_after_all}
use Rattle.drf_rows.specs.declared.event.Event.{Event}
use Rattle.drf_rows.specs.declared.event.Event.TheVariants.{AddFramework, SetFramework, RemoveFramework, Suppress, Revive, Cycle}
use Rattle.drf_rows.specs.declared.rows.AgentRow.{AgentRow}
use Rattle.drf_rows.specs.declared.rows.Rows.{Rows}
use Rattle.drf_laws.specs.RunLaws.{AreGiven}
use Rattle.drf_promises.specs.Apart.{AreClientsOf}
use Rattle.drf_promises.specs.Sharing.{share_at}
use Rattle.drf_promises.specs.Cycles.{active_agents}
use Rattle.drf_promises.specs.Siblings.{child}

-- the turn passes over the node: as the turn begins the node holds nothing, and some active client of it would be
-- granted something, but the turn offers its clients nothing
abbrev pub is_passed : Path → Rows → AgentRow → Bool
is_passed node rows agent =
    ((share_at rows node).part == 0)
    && (list_any (λ c. begins_with (path_of c) node && is_some (grant rows agent c)) (active_clients rows)
    && (count_of (turn rows agent) node == count_of rows node))

-- how many of the turns pass over the node
abbrev pub passes_in_turns : Path → Rows → List AgentRow → ℕ
passes_in_turns node rows [] = 0
passes_in_turns node rows (agent ∷ agents) = (if is_passed node rows agent then 1 else 0) + passes_in_turns node (turn rows agent) agents

-- how many turns of an event, and of a run, pass over the node
abbrev pub passes_at : LimitNumbers → Path → Rows → Event → ℕ
passes_at limits node rows (Cycle at) =
    option_map_or (λ refusal. 0) (refusal_of limits rows (Cycle at)) (passes_in_turns node (at_timestamp rows at) (active_agents rows))
passes_at limits node rows other = 0

abbrev pub passes_in : LimitNumbers → Path → Rows → List Event → ℕ
passes_in limits node rows [] = 0
passes_in limits node rows (event ∷ events) = passes_at limits node rows event + passes_in limits node (rows_after limits rows event) events

-- how many offers the siblings can get before each has received one more than the node
abbrev pub lead_of : Rows → Path → Text → List Text → ℕ
lead_of rows parent one others = sum_by (λ name. count_of rows (child parent one) + 1 - count_of rows (child parent name)) others

-- the event does not register or remove a framework, change its roles, suppress or revive
abbrev pub KeepsFrameworks : Event → Type 0
KeepsFrameworks (AddFramework framework roles) = ⊥
KeepsFrameworks (SetFramework framework roles) = ⊥
KeepsFrameworks (RemoveFramework framework) = ⊥
KeepsFrameworks (Suppress framework role) = ⊥
KeepsFrameworks (Revive framework role) = ⊥
KeepsFrameworks other = ⊤

-- All active clients are clients of some siblings, such as the top-level roles or the frameworks of one role. While one
-- of these is offered nothing, at most as many turns pass over it as the others can get offers before each has received
-- one more than it, whatever else happens and whatever the weights.
abbrev pub PassesAreFew : Type 0
PassesAreFew =
    (limits : LimitNumbers) (rows : Rows) (events : List Event) (parent : Path) (one : Text) (others : List Text)
    → IsConsistent rows
    → AreGiven events
    → AllByRecursion KeepsFrameworks events
    → AreClientsOf rows parent (one ∷ others)
    → count_of (rows_after_all limits rows events) (child parent one) ≡ count_of rows (child parent one)
    → passes_in limits (child parent one) rows events ≤ lead_of rows parent one others
