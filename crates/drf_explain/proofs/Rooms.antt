-- A quota leaves what the rows say, and the outcome of a client follows from it.
use Rattle.std.specs.Prelude.{◌≡◌, ℕ, max, true, false, List, map, filter, Option}
use Rattle.std.specs.List.{reduce}
use Rattle.std.specs.Option.{option_map_or}
use Rattle.std.proofs.Common.{sym, ap, ◌∙◌, cond}
use Rattle.std.proofs.lemmas.Bool.{and_parts}
use Rattle.drf_role.specs.Text.{Text}
use Rattle.drf_role.specs.Path.{Path, role_part, framework_part}
use Rattle.drf_role.proofs.PathLaws.{role_part-client_path, framework_part-client_path}
use Rattle.drf_bundle.specs.Bundle.{covers}
use Rattle.drf_bundle.specs.declared.resource.Resource.{Resource}
use Rattle.drf_gates.specs.quota.Allowance.{Allowance, IsAllowanceOf, used_at}
use Rattle.drf_rows.specs.Client.{Client, path_of}
use Rattle.drf_rows.specs.Cycle.{is_allocatable}
use Rattle.drf_rows.specs.Filters.{is_in_force, is_of_client, is_on_agent, holds_back}
use Rattle.drf_rows.specs.Quota.{consumption, is_within}
use Rattle.drf_rows.specs.declared.rows.AgentRow.{AgentRow}
use Rattle.drf_rows.specs.declared.rows.FilterRow.{FilterRow}
use Rattle.drf_rows.specs.declared.rows.LimitRow.{LimitRow}
use Rattle.drf_rows.specs.declared.rows.Rows.{Rows}
use Rattle.drf_explain.specs.Explained.{held_until, limiting_role, outcome_by, shortage, tightest, worthy_scalar}
use Rattle.drf_explain.proofs.ExplainedLaws.{filter_weaker}
use Rattle.drf_explain.specs.Gates.{AreGatesOf, client_at}
use Rattle.drf_explain.specs.declared.finding.Outcome.{Outcome}
use Rattle.drf_explain.specs.declared.finding.Outcome.TheVariants.{Grant, HeldBack}
use Rattle.drf_explain.specs.declared.gates.Gates.{Gates}

-- the consumption that a quota counts is that of the rows
pub counted_is : (rows : Rows) (a : Allowance) → IsAllowanceOf rows a → used_at a.used ≡ consumption rows
counted_is rows a counted = λ i role label. counted.used (is_within role) label i

pub limiting_some : (rows : Rows) (a : Allowance) (limits : List LimitRow) (role : Path) (part : List Resource) (found : Option LimitRow) (limiting : Path)
    → IsAllowanceOf rows a → limits ≡ rows.limits → found ≡ tightest limits (used_at a.used) role (worthy_scalar part)
    → limiting ≡ option_map_or (λ l. l.role) found role → limiting ≡ limiting_role rows.limits (consumption rows) role part
limiting_some rows a limits role part found limiting counted same is chosen =
    chosen
    ∙ (λ i. option_map_or (λ (l : LimitRow). l.role) (is i) role)
    ∙ (λ i. option_map_or (λ (l : LimitRow). l.role) (tightest (same i) (counted_is rows a counted i) role (worthy_scalar part)) role)

-- ---- filters on one agent

module _ (clock : ℕ) (client : Client) (agent : Text) (bundle : List Resource) where
  there : (f : FilterRow) → holds_back clock client agent bundle f ≡ true → is_on_agent agent f ≡ true
  there f holds =
      let first = and_parts (is_in_force clock f) _ holds in
      let second = and_parts (is_of_client client f) _ first.1 in
      (and_parts (is_on_agent agent f) (covers f.bundle bundle) second.1).0

  pub held_there : (filters : List FilterRow)
      → filter (holds_back clock client agent bundle) (filter (is_on_agent agent) filters) ≡ filter (holds_back clock client agent bundle) filters
  held_there filters = filter_weaker (holds_back clock client agent bundle) (is_on_agent agent) there filters

-- the filters on an agent decide like all filters
pub gates_of : (rows : Rows) (agent : AgentRow) (gates : Gates) → gates.agent.now ≡ agent.name → gates.timestamp ≡ rows.clock
    → gates.filters.items ≡ filter (is_on_agent gates.agent.now) rows.filters → gates.limits.now ≡ rows.limits → AreGatesOf rows agent gates
gates_of rows agent gates name timestamp filters limits = record {
  name = name;
  timestamp = timestamp;
  filters = λ client bundle.
      ap (filter (holds_back rows.clock client agent.name bundle)) (filters ∙ (λ i. filter (is_on_agent (name i)) rows.filters))
      ∙ held_there rows.clock client agent.name bundle rows.filters;
  limits = limits;
}

-- the client with the path of a client is this client
pub client_at-path : (path : Path) (client : Client) → path ≡ path_of client → client_at path ≡ client
client_at-path path client joined =
    let role : role_part path ≡ client.role = ap role_part joined ∙ role_part-client_path client.role client.framework in
    let framework : framework_part path ≡ client.framework = ap framework_part joined ∙ framework_part-client_path client.role client.framework in
    λ i. record { role = role i; framework = framework i }

-- ---- the outcome of a client

module _ (rows : Rows) (agent : AgentRow) (client : Client) (gates : Gates) (path : Path) (are : AreGatesOf rows agent gates)
    (joined : path ≡ path_of client) (free part bundle : List Resource) where
  pub held_as_found : held_until gates.filters.items gates.timestamp (client_at path) gates.agent.now bundle
      ≡ held_until rows.filters rows.clock client agent.name bundle
  held_as_found =
      (λ i. held_until gates.filters.items (are.timestamp i) (client_at-path path client joined i) (are.name i) bundle)
      ∙ ap (λ (fs : List FilterRow). reduce max (map (λ f. f.until) fs)) (are.filters client bundle)

  pub outcome-short : (why : Outcome) → is_allocatable bundle ≡ false
      → why ≡ shortage rows.limits (consumption rows) (role_part path) free part
      → why ≡ outcome_by rows agent client free part bundle
  outcome-short why little is =
      let role : role_part path ≡ client.role = ap role_part joined ∙ role_part-client_path client.role client.framework in
      is ∙ ap (λ (r : Path). shortage rows.limits (consumption rows) r free part) role
      ∙ sym (ap (λ b. cond b (option_map_or HeldBack (held_until rows.filters rows.clock client agent.name bundle) (Grant bundle))
      (shortage rows.limits (consumption rows) client.role free part)) little)

  pub outcome-worth : (found : Option ℕ) → is_allocatable bundle ≡ true
      → found ≡ held_until gates.filters.items gates.timestamp (client_at path) gates.agent.now bundle
      → option_map_or HeldBack found (Grant bundle) ≡ outcome_by rows agent client free part bundle
  outcome-worth found worth is =
      ap (λ (o : Option ℕ). option_map_or HeldBack o (Grant bundle)) (is ∙ held_as_found)
      ∙ sym (ap (λ b. cond b (option_map_or HeldBack (held_until rows.filters rows.clock client agent.name bundle) (Grant bundle))
      (shortage rows.limits (consumption rows) client.role free part)) worth)
