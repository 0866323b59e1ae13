-- The rows that the fields mean, before and after each change.
use Rattle.std.specs.List.{AllByRecursion}
use Rattle.std.specs.Global.{Vec}
use Rattle.std.specs.Option.{option_map}
use Rattle.std.specs.Map.{lookup, values_of}
use Rattle.std.proofs.Common.{refl, sym, ap, ◌∙◌, zero, suc, arith, ◌≡◌, ℕ, ◌+◌, ◌*◌, ◌<◌, ◌≤◌, ◌^◌, Bool, true, List, [], ◌∷◌, ◌++◌, length, map, fold, slice_get, Some, is_some}
use Rattle.std.proofs.lemmas.List.{map-append}
use Rattle.drf_tables.proofs.tables.Names.{Text, same_text, amount_of, plus, quantities_of, Entry, cluster_total, has_agent, has_framework, IsAgent, AgentRow, ClientRow, OfferRow, Rows, counting_all, holdings_of, each_at, Resource, Agent, Inside}
use Rattle.drf_bundle.proofs.theorems.QuantitiesLaws.{amount-plus}
use Rattle.drf_bundle.proofs.theorems.UnitProofs.{quantities_no_zeros}
use Rattle.drf_rows.specs.Cycle.{free_of}
use Rattle.drf_rows.specs.Totals.{agent_at as found_agent}
use Rattle.drf_row_laws.proofs.RegistrationLaws.{agent_added, framework_added}
use Rattle.drf_rows.specs.declared.limits.TheConstants.{LARGEST_AMOUNT}
use Rattle.drf_tables.specs.cycle.Drafts.{with_offers}
use Rattle.drf_tables.proofs.DraftLaws.{offers_added, with_offers-added}
use Rattle.drf_tables.specs.Inside.{agent_row, framework_row, framework_rows, rows_of, rows_in, IsKnown}
use Rattle.drf_holdings.specs.Stored.{OffersAndTasks}
use Rattle.drf_tables.proofs.registry.Entries.{known-lookup, found-lookup}

-- ---- the agent at a place

pub active_at : (agents : List (Text × Agent)) (i : ℕ) (v : Agent) (a : AgentRow)
    → slice_get (values_of agents) i ≡ Some v → slice_get (map agent_row agents) i ≡ Some a → v.active ≡ a.active
active_at [] i v a value row = cc
active_at (e ∷ agents) zero v a value row =
    let same : e.1 ≡ v = cc in
    let read : agent_row e ≡ a = cc in
    (λ i. (sym same i).active) ∙ (λ i. (read i).active)
active_at (e ∷ agents) (suc i) v a value row = active_at agents i v a value row

pub name_at : (agents : List (Text × Agent)) (i : ℕ) (e : Text × Agent) (a : AgentRow)
    → slice_get agents i ≡ Some e → slice_get (map agent_row agents) i ≡ Some a → e.0 ≡ a.name
name_at [] i e a at row = cc
name_at (f ∷ agents) zero e a at row =
    let same : f ≡ e = cc in
    let read : agent_row f ≡ a = cc in
    (λ i. (sym same i).0) ∙ (λ i. (read i).name)
name_at (f ∷ agents) (suc i) e a at row = name_at agents i e a at row

pub agent_at : (agents : List (Text × Agent)) (i : ℕ) (v : Agent) (a : AgentRow)
    → slice_get (values_of agents) i ≡ Some v → slice_get (map agent_row agents) i ≡ Some a
    → (key : Text) × (slice_get agents i ≡ Some (key, v)) × (agent_row (key, v) ≡ a)
agent_at [] i v a value row = cc
agent_at (e ∷ agents) zero v a value row =
    let same : e.1 ≡ v = cc in
    let read : agent_row e ≡ a = cc in
    (e.0, (λ j. Some (e.0, same j)), (λ j. agent_row (e.0, sym same j)) ∙ read)
agent_at (e ∷ agents) (suc i) v a value row = agent_at agents i v a value row

pub free_of-at : (rows : Rows) (agents : List (Text × Agent)) (i : ℕ) (v : Agent) (a : AgentRow) (free : List Resource)
    → AllByRecursion (IsKnown (holdings_of rows)) agents → slice_get (values_of agents) i ≡ Some v
    → slice_get (map agent_row agents) i ≡ Some a → v.free ≡ Some free → free ≡ free_of rows a
unfolding free_of
free_of-at rows agents i v a free known value row is =
    let at = agent_at agents i v a value row in
    each_at (IsKnown (holdings_of rows)) agents i (at.0, v) known at.1 free is ∙ ap (free_of rows) at.2

-- ---- the fields

module _ (t : Inside) where
  pub agents_in : (rows_in t).agents ≡ map agent_row t.agents.entries
  unfolding rows_of
  agents_in = refl

  pub has_agent-rows_in : (name : Text) → has_agent (rows_in t) name ≡ is_some (lookup (same_text name) t.agents.entries)
  unfolding rows_of
  has_agent-rows_in name = known-lookup (λ a. a.name) agent_row name t.agents.entries (λ e. refl)

  pub agent_at-rows_in : (name : Text)
      → found_agent (rows_in t) name ≡ option_map (λ a. agent_row (name, a)) (lookup (same_text name) t.agents.entries)
  unfolding rows_of
  agent_at-rows_in name = found-lookup agent_row (λ a. a.name) name t.agents.entries (λ e. refl)

  pub has_framework-rows_in : (name : Text)
      → has_framework (rows_in t) name ≡ is_some (lookup (same_text name) t.frameworks.entries)
  unfolding rows_of
  has_framework-rows_in name = known-lookup (λ f. f.name) framework_row name t.frameworks.entries (λ e. refl)

  -- an agent that is added comes last
  module _ (entries : List (Text × Agent)) (name : Text) (a : Agent) (last_agent : entries ≡ t.agents.entries ++ (name, a) ∷ []) where
    pub rows_of-agent : a.active ≡ true
        → rows_of entries t.frameworks.entries t.holdings t.filters t.weights.entries t.limits t.clock t.next_offer t.events
        ≡ agent_added (rows_in t) name a.total
    unfolding rows_of
    rows_of-agent active =
        let row : Bool → AgentRow = λ b. record { name = name; total = a.total; active = b } in
        let read : map agent_row entries ≡ map agent_row t.agents.entries ++ row true ∷ [] =
        ap (map agent_row) last_agent
        ∙ map-append agent_row t.agents.entries ((name, a) ∷ [])
        ∙ (λ i. map agent_row t.agents.entries ++ row (active i) ∷ []) in
        λ i. record (rows_in t) { agents = read i }

  -- a framework that is added comes last
  pub rows_of-framework : (entries : List (Text × Vec ClientRow)) (name : Text) (v : Vec ClientRow)
      → entries ≡ t.frameworks.entries ++ (name, v) ∷ []
      → rows_of t.agents.entries entries t.holdings t.filters t.weights.entries t.limits t.clock t.next_offer t.events
      ≡ framework_added (rows_in t) (framework_row (name, v))
  unfolding rows_of
  rows_of-framework entries name v last =
      let read : framework_rows entries ≡ framework_rows t.frameworks.entries ++ framework_row (name, v) ∷ [] =
      ap framework_rows last ∙ map-append framework_row t.frameworks.entries ((name, v) ∷ []) in
      λ i. record (rows_in t) { frameworks = read i }

  pub rows_of-offers : (entries : List (Text × Agent)) (counted : List (Text × Vec ClientRow)) (held : OffersAndTasks) (made : List OfferRow)
      → map agent_row entries ≡ map agent_row t.agents.entries
      → framework_rows counted ≡ counting_all (framework_rows t.frameworks.entries) made
      → held.offers ≡ t.holdings.offers ++ made → held.tasks ≡ t.holdings.tasks
      → rows_of entries counted held t.filters t.weights.entries t.limits t.clock (t.next_offer + length made) t.events
      ≡ with_offers (rows_in t) made
  unfolding rows_of
  rows_of-offers entries counted held made agents frameworks offers tasks =
      (λ i. record (offers_added (rows_in t) made) {
        agents = agents i;
        frameworks = frameworks i;
        offers = offers i;
        tasks = tasks i;
      })
      ∙ sym (with_offers-added (rows_in t) made)

-- ---- the total

added : List Entry → List AgentRow → List Entry
added start agents = fold (λ sum agent. plus sum (quantities_of agent.total)) start agents

-- the sum of the amounts of few agents is small
small_sum : (start : List Entry) (agents : List AgentRow) (label : Text) → AllByRecursion IsAgent agents
    → amount_of (added start agents) label ≤ amount_of start label + length agents * LARGEST_AMOUNT
unfolding added
small_sum start [] label all = omega arith
small_sum start (a ∷ agents) label all =
    let more = small_sum (plus start (quantities_of a.total)) agents label all.1 in
    let one = amount-plus start (quantities_of a.total) label (quantities_no_zeros a.total all.0.total).in_order in
    let small = all.0.small label in
    omega (arith, more, one, small)

pub sums_fit : (agents : List AgentRow) (label : Text) (amount : ℕ)
    → AllByRecursion IsAgent agents → length agents ≤ 4096 → amount ≤ LARGEST_AMOUNT
    → amount_of (cluster_total agents) label + amount < 2 ^ 64
unfolding added
sums_fit agents label amount all few small = omega (arith, small_sum [] agents label all, few, small)

pub total_fits : (agents : List AgentRow) (label : Text) → AllByRecursion IsAgent agents → length agents ≤ 4096
    → amount_of (cluster_total agents) label < 2 ^ 64
total_fits agents label all few = omega (arith, sums_fit agents label 0 all few (omega arith))
