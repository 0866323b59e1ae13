-- What is true of the state at all times (`IsConsistent`), in one definition for each rule. That it is kept by every
-- event is proved in `drf_row_laws`.
use Rattle.std.specs.Prelude.{◌≡◌, ℕ, ◌+◌, ◌*◌, ◌^◌, ◌<◌, ◌≤◌, Bool, true, not, ◌&&◌, List, [], ◌∷◌, length, map, sum_by, nat_lt, Some}
use Rattle.std.specs.List.{list_all, list_any, AllByRecursion}
use Rattle.drf_role.specs.Text.{Text, same_text}
use Rattle.drf_role.specs.Name.{IsName}
use Rattle.drf_role.specs.Path.{Path, same_path}
use Rattle.drf_role.specs.Role.{IsRole}
use Rattle.drf_bundle.specs.Quantities.{amount_of}
use Rattle.drf_bundle.specs.Value.{Point}
use Rattle.drf_bundle.specs.Bundle.{Key, IsBundle, is_default, units, quantities_of}
use Rattle.drf_bundle.specs.Taken.{joined, units_of_all}
use Rattle.drf_rows.specs.Holdings.{Holding, holdings_of, parts_on}
use Rattle.drf_rows.specs.Held.{is_registered}
use Rattle.drf_rows.specs.Releases.{is_task}
use Rattle.drf_rows.specs.Cycle.{free_of}
use Rattle.drf_rows.specs.Weights.{are_weights}
use Rattle.drf_rows.specs.declared.limits.TheConstants.{LARGEST_AMOUNT, LATEST_TIMESTAMP}
use Rattle.drf_rows.specs.declared.rows.FilterRow.{FilterRow}
use Rattle.drf_rows.specs.declared.rows.LimitRow.{LimitRow}
use Rattle.drf_rows.specs.declared.rows.TaskRow.{TaskRow}
use Rattle.drf_rows.specs.declared.rows.WeightRow.{WeightRow}
use Rattle.drf_rows.specs.declared.rows.AgentRow.{AgentRow}
use Rattle.drf_rows.specs.declared.rows.FrameworkRow.{FrameworkRow}
use Rattle.drf_rows.specs.declared.rows.Rows.{Rows}

-- no name occurs twice
abbrev pub are_distinct : List Text → Bool
are_distinct [] = true
are_distinct (text ∷ texts) = list_all (λ t. not (same_text text t)) texts && are_distinct texts

-- no role occurs twice
abbrev pub are_distinct_roles : List Path → Bool
are_distinct_roles [] = true
are_distinct_roles (role ∷ roles) = list_all (λ r. not (same_path role r)) roles && are_distinct_roles roles

-- the total of an agent is a valid bundle in which no scalar is too large
pub record IsAgent (agent : AgentRow) : Type 0 where
  pub total : IsBundle agent.total
  pub small : (label : Text) → amount_of (quantities_of agent.total) label ≤ LARGEST_AMOUNT

-- agents have different names, and each row is valid
pub record AreAgents (agents : List AgentRow) : Type 0 where
  pub names : are_distinct (map (λ a. a.name) agents) ≡ true
  pub each : AllByRecursion IsAgent agents

-- the framework has a valid name, and its clients have valid roles
pub record IsFramework (framework : FrameworkRow) : Type 0 where
  pub name : IsName framework.name
  pub roles : AllByRecursion IsRole (map (λ c. c.role) framework.clients)

-- frameworks have different names, and the clients of each have different roles
pub record AreFrameworks (frameworks : List FrameworkRow) : Type 0 where
  pub names : are_distinct (map (λ f. f.name) frameworks) ≡ true
  pub roles : AllByRecursion (λ f. are_distinct_roles (map (λ c. c.role) f.clients) ≡ true) frameworks
  pub each : AllByRecursion IsFramework frameworks

-- the agent and the client of a holding are registered, and it is a valid bundle
pub record IsHeld (agents : List AgentRow) (frameworks : List FrameworkRow) (h : Holding) : Type 0 where
  pub agent : list_any (λ a. same_text a.name h.agent) agents ≡ true
  pub client : is_registered frameworks h.client ≡ true
  pub bundle : IsBundle h.bundle

-- no two tasks of a framework have the same name
abbrev pub are_distinct_tasks : List TaskRow → Bool
are_distinct_tasks [] = true
are_distinct_tasks (task ∷ tasks) = list_all (λ t. not (is_task task.framework task.name t)) tasks && are_distinct_tasks tasks

-- weights are in range, and their roles are valid and different
pub record AreWeights (weights : List WeightRow) : Type 0 where
  pub roles : are_distinct_roles (map (λ w. w.role) weights) ≡ true
  pub each : are_weights weights ≡ true
  pub valid : AllByRecursion (λ w. IsRole w.role) weights

-- limits name at least one scalar, and their roles are valid, different and not `*`
pub record AreLimits (limits : List LimitRow) : Type 0 where
  pub roles : are_distinct_roles (map (λ l. l.role) limits) ≡ true
  pub each : list_all (λ l. not (is_default l.role) && nat_lt 0 (length l.limit)) limits ≡ true
  pub valid : AllByRecursion (λ l. IsRole l.role) limits

-- the agent and the client of a filter are registered, its bundle is valid, and it ends before 2^63
pub record IsFilter (agents : List AgentRow) (frameworks : List FrameworkRow) (f : FilterRow) : Type 0 where
  pub agent : list_any (λ a. same_text a.name f.agent) agents ≡ true
  pub client : is_registered frameworks (record { role = f.role; framework = f.framework }) ≡ true
  pub bundle : IsBundle f.bundle
  pub until : f.until < 2 ^ 63

-- the resources held on the agent is at most its total, unit by unit
abbrev pub IsCovered : List Holding → AgentRow → Type 0
IsCovered holdings agent =
    (key : Key) (p : Point) → units_of_all (parts_on agent.name holdings) key p ≤ units agent.total key p

-- how many offers the registered clients have received
abbrev pub offers_counted : List FrameworkRow → ℕ
offers_counted frameworks = sum_by (λ f. sum_by (λ c. c.count) f.clients) frameworks

-- the numbers rise strictly, and are all less than `next`
abbrev pub are_rising : List ℕ → ℕ → Bool
are_rising [] next = true
are_rising (n ∷ ns) next = nat_lt n next && list_all (nat_lt n) ns && are_rising ns next

-- the rules that hold for the state of every allocator
pub record IsConsistent (rows : Rows) : Type 0 where
  pub agents : AreAgents rows.agents
  pub frameworks : AreFrameworks rows.frameworks
  pub holdings : AllByRecursion (IsHeld rows.agents rows.frameworks) (holdings_of rows)
  pub covered : AllByRecursion (IsCovered (holdings_of rows)) rows.agents
  pub tasks : are_distinct_tasks rows.tasks ≡ true
  pub weights : AreWeights rows.weights
  pub limits : AreLimits rows.limits
  pub filters : AllByRecursion (IsFilter rows.agents rows.frameworks) rows.filters
  pub early : rows.clock ≤ LATEST_TIMESTAMP
  pub counted : offers_counted rows.frameworks < rows.next_offer
  pub numbered : are_rising (map (λ o. o.number) rows.offers) rows.next_offer ≡ true

-- a cycle makes at most 2^24 offers, so no offer number exceeds 2^56
abbrev pub IsNumberedByEvents : Rows → Type 0
IsNumberedByEvents rows = rows.next_offer ≤ 1 + rows.events * 2 ^ 24

-- no resources of the agent are given twice: its free resources and everything held on it join to its total
abbrev pub IsConserved : Rows → AgentRow → Type 0
IsConserved rows agent = joined (free_of rows agent) (parts_on agent.name (holdings_of rows)) ≡ Some agent.total
