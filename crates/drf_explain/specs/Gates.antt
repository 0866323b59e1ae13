-- What decides, besides the free resources, what a client gets on an agent, as the code stores it.
use Rattle.std.specs.Prelude.{◌≡◌, Bool, List, [], filter, Option, Some, None, if◌then◌else◌}
use Rattle.std.specs.Option.{MatchOption}
use Rattle.drf_role.specs.Path.{Path, role_part, framework_part}
use Rattle.drf_bundle.specs.declared.resource.Resource.{Resource}
use Rattle.drf_gates.specs.quota.Allowance.{Allowance, IsAllowanceOf}
use Rattle.drf_rows.specs.Client.{Client}
use Rattle.drf_rows.specs.Filters.{holds_back}
use Rattle.drf_rows.specs.declared.rows.AgentRow.{AgentRow}
use Rattle.drf_rows.specs.declared.rows.Rows.{Rows}
use Rattle.drf_explain.specs.declared.gates.Gates.{Gates}

-- the limits and the consumption are those of the rows; if there is no quota, no role has a limit
abbrev pub IsQuotaOf : Rows → Option Allowance → Type 0
IsQuotaOf rows quota = MatchOption quota (rows.limits ≡ []) (IsAllowanceOf rows)

-- the timestamp and the limits are those of the rows, and the filters cover the same bundles on the agent
pub record AreGatesOf (rows : Rows) (agent : AgentRow) (gates : Gates) : Type 0 where
  pub name : gates.agent.now ≡ agent.name
  pub timestamp : gates.timestamp ≡ rows.clock
  pub filters : (client : Client) (bundle : List Resource)
      → filter (holds_back rows.clock client agent.name bundle) gates.filters.items ≡ filter (holds_back rows.clock client agent.name bundle) rows.filters
  pub limits : gates.limits.now ≡ rows.limits

-- the client with this path
abbrev pub client_at : Path → Client
client_at path = record { role = role_part path; framework = framework_part path }

-- an optional earlier value, joined with one more value
abbrev pub joined : {B : Type 0} → (B → B → B) → Option B → B → B
joined join None y = y
joined join (Some found) y = join found y

-- the value after one more element, which counts only if it passes the test
abbrev pub reduced : {A B : Type 0} → (A → Bool) → (A → B) → (B → B → B) → Option B → A → Option B
reduced test value join found x = if test x then Some (joined join found (value x)) else found
