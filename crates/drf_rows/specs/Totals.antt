-- Changes of an agent's total: reserving and unreserving a part of it (Mesos: dynamic reservations), and setting a new
-- total.
use Rattle.std.specs.Prelude.{◌≡◌, ◌≤◌, Bool, false, not, List, map, find, Option, if◌then◌else◌}
use Rattle.std.specs.Option.{option_map_or}
use Rattle.drf_role.specs.Text.{Text, same_text}
use Rattle.drf_role.specs.Path.{Path}
use Rattle.drf_bundle.specs.Value.{Point}
use Rattle.drf_bundle.specs.Bundle.{Key, IsBundle, units, stock, join, rest, covers, relabel}
use Rattle.drf_bundle.specs.declared.resource.Resource.{Resource}
use Rattle.drf_rows.specs.Cycle.{free_of}
use Rattle.drf_rows.specs.Holdings.{holdings_of, parts_on}
use Rattle.drf_rows.specs.Tasks.{covers_all}
use Rattle.drf_rows.specs.declared.rows.AgentRow.{AgentRow}
use Rattle.drf_rows.specs.declared.rows.Rows.{Rows}

-- the registered agent with that name
abbrev pub agent_at : Rows → Text → Option AgentRow
agent_at rows name = find (λ a. same_text a.name name) rows.agents

-- the row, with its total changed by a function if it is that of the agent with that name
abbrev pub total_at : Text → (List Resource → List Resource) → AgentRow → AgentRow
total_at name made a = if same_text a.name name then record a { total = made a.total } else a

-- the rows of the agents, with the total of one changed by a function
abbrev pub with_total : Rows → Text → (List Resource → List Resource) → List AgentRow
with_total rows name made = map (total_at name made) rows.agents

-- ---- reserving and unreserving

-- the bundle `whole` with its part `old` replaced by `new`
abbrev pub exchanged : List Resource → List Resource → List Resource → List Resource
exchanged old new whole = option_map_or (λ both. both) (join (rest whole old) new) whole

-- `whole` covers `old`, and `new` has as many units of each name as `old`: only reservations differ
pub record CanExchange (whole old new : List Resource) : Type 0 where
  pub is_whole : IsBundle whole
  pub is_old : IsBundle old
  pub is_new : IsBundle new
  pub covered : (key : Key) (p : Point) → units old key p ≤ units whole key p
  pub stocks : (name : Text) (p : Point) → stock new name p ≡ stock old name p

-- the rows of the agents after unreserved resources of one are reserved for a role
abbrev pub with_reserved : Rows → Text → Path → List Resource → List AgentRow
with_reserved rows agent role resources = with_total rows agent (exchanged resources (relabel role resources))

-- the rows of the agents after resources reserved for exactly this role are unreserved
abbrev pub with_unreserved : Rows → Text → Path → List Resource → List AgentRow
with_unreserved rows agent role resources = with_total rows agent (exchanged (relabel role resources) resources)

-- the agent is registered, and its free resources do not cover these
abbrev pub is_not_free : Rows → Text → List Resource → Bool
is_not_free rows agent resources = option_map_or (λ a. not (covers (free_of rows a) resources)) (agent_at rows agent) false

-- ---- setting a new total

-- the rows of the agents after one gets a new total
abbrev pub with_other_total : Rows → Text → List Resource → List AgentRow
with_other_total rows agent total = with_total rows agent (λ old. total)

-- the new total does not cover everything that is held on the agent
abbrev pub is_below_held : Rows → Text → List Resource → Bool
is_below_held rows agent total = not (covers_all total (parts_on agent (holdings_of rows)))
