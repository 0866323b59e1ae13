-- What the tables store besides the rows stays right through each change.
use Rattle.std.specs.List.{AllByRecursion}
use Rattle.std.proofs.Common.{refl, sym, ap, ◌∙◌, subst, arith, length-append, ◌≡◌, ℕ, ◌+◌, ◌<◌, ◌≤◌, true, false, List, [], ◌∷◌, ◌++◌, length, map, Option, Some}
use Rattle.drf_tables.proofs.tables.Names.{Text, plus, quantities_of, Entry, Resource, clients_of, cluster_total, Holding, holdings_of, parts_on, has_agent, has_framework, IsAgent, IsFramework, IsConsistent, are_distinct_roles, offers_counted, each_append, AgentRow, FrameworkRow, OfferRow, Rows, agent_row, frees_in, known_after, is_settled, IsKnown, AreDerived, Agent}
use Rattle.drf_bundle.specs.Taken.{rest_of_all}
use Rattle.drf_row_laws.proofs.RegistrationLaws.{new_agent, agent_added, framework_added, cluster_total-with_agent, parts_on-nothing, length-clients_of-framework_added, IsConsistent-agent_added}
use Rattle.drf_rows.specs.declared.limits.TheConstants.{LATEST_TIMESTAMP}
use Rattle.drf_rows.specs.Cycle.{free_of}
use Rattle.drf_tables.specs.cycle.Drafts.{with_offers, frees_of, frees_after}
use Rattle.drf_tables.proofs.DraftLaws.{with_offers-added, agents-with_offers}
use Rattle.drf_tables.specs.declared.tables.Left.{Left}
use Rattle.drf_tables.proofs.cycle.Counted.{count_clients-counting_all}
use Rattle.drf_tables.proofs.agents.Registered.{IsConsistent-framework_put}
use Rattle.drf_tables.proofs.registry.Known.{frees-settled, settled-frees, known-frees, known_after-some}

-- ---- holdings, agents and clients do not change

module _ (rows new : Rows) (agents : List (Text × Agent)) (sum : List Entry) (number : ℕ) (kept : AreDerived rows agents sum number) where
  pub AreDerived-same : IsConsistent new → holdings_of rows ≡ holdings_of new
      → rows.agents ≡ new.agents → length (clients_of rows) ≡ length (clients_of new)
      → AreDerived new agents sum number
  AreDerived-same consistent held same clients = record {
    consistent = consistent;
    free = subst (λ (hs : List Holding). AllByRecursion (IsKnown hs) agents) held kept.free;
    total = kept.total ∙ ap cluster_total same;
    clients = kept.clients ∙ clients;
    few = subst (λ (agents : List AgentRow). length agents ≤ 4096) same kept.few;
  }

-- ---- the clock and the number of events change

pub AreDerived-clocked : (rows : Rows) (agents : List (Text × Agent)) (sum : List Entry) (number clock events : ℕ)
    → clock ≤ LATEST_TIMESTAMP → AreDerived rows agents sum number
    → AreDerived (record rows { clock = clock; events = events }) agents sum number
AreDerived-clocked rows agents sum number clock events early kept =
    AreDerived-same rows (record rows { clock = clock; events = events }) agents sum number kept
    (record {
      agents = kept.consistent.agents;
      frameworks = kept.consistent.frameworks;
      holdings = kept.consistent.holdings;
      covered = kept.consistent.covered;
      tasks = kept.consistent.tasks;
      weights = kept.consistent.weights;
      limits = kept.consistent.limits;
      filters = kept.consistent.filters;
      early = early;
      counted = kept.consistent.counted;
      numbered = kept.consistent.numbered;
    })
    refl refl refl

-- ---- an agent is added

pub AreDerived-agent_added :
    (rows : Rows) (agents : List (Text × Agent)) (sum : List Entry) (number : ℕ) (name : Text) (a : Agent)
    → AreDerived rows agents sum number → length rows.agents < 4096
    → has_agent rows name ≡ false → IsAgent (new_agent name a.total) → a.free ≡ Some a.total
    → AreDerived (agent_added rows name a.total) (agents ++ (name, a) ∷ []) (plus sum (quantities_of a.total)) number
AreDerived-agent_added rows agents sum number name a kept few new right all =
    let nothing : parts_on name (holdings_of rows) ≡ [] = parts_on-nothing rows name kept.consistent new in
    let known : IsKnown (holdings_of rows) (name, a) = λ free is.
    by free (sym all ∙ is) ∙ sym (ap (rest_of_all a.total) nothing) in
    record {
      consistent = IsConsistent-agent_added rows name a.total kept.consistent new right;
      free = each_append (IsKnown (holdings_of rows)) agents ((name, a) ∷ []) kept.free (known, tt);
      total = ap (λ es. plus es (quantities_of a.total)) kept.total ∙ sym (cluster_total-with_agent rows name a.total);
      clients = kept.clients;
      few = omega (arith, few, length-append rows.agents (new_agent name a.total ∷ []));
    }
  where
    by : (free : List Resource) → ◌≡◌ {A = Option (List Resource)} (Some a.total) (Some free) → free ≡ a.total
    by free is = cc

-- ---- a framework is added

pub AreDerived-framework_added : (rows : Rows) (agents : List (Text × Agent)) (sum : List Entry) (number : ℕ) (f : FrameworkRow)
    → AreDerived rows agents sum number → has_framework rows f.name ≡ false → IsFramework f
    → are_distinct_roles (map (λ c. c.role) f.clients) ≡ true
    → offers_counted (rows.frameworks ++ f ∷ []) < rows.next_offer → AreDerived (framework_added rows f) agents sum (number + length f.clients)
AreDerived-framework_added rows agents sum number f kept new valid apart counted = record {
  consistent = IsConsistent-framework_put rows f kept.consistent new valid apart counted;
  free = kept.free;
  total = kept.total;
  clients = ap (λ n. n + length f.clients) kept.clients ∙ sym (length-clients_of-framework_added rows f);
  few = kept.few;
}

-- ---- offers

-- the free resources that a cycle leaves are those of each agent
module _ (rows : Rows) (old new : List (Text × Agent)) (offers : List OfferRow) (lefts : List Left)
    (agents : rows.agents ≡ map agent_row old) (same : map agent_row new ≡ map agent_row old)
    (settled : is_settled old ≡ true) (known : AllByRecursion (IsKnown (holdings_of rows)) old)
    (put : frees_in new ≡ known_after (frees_in old) lefts)
    (left : frees_after (frees_of rows) lefts ≡ frees_of (with_offers rows offers)) where
  frees-left : frees_in new ≡ map (λ f. Some f) (map (free_of (with_offers rows offers)) (map agent_row new))
  frees-left =
      let after : Rows = with_offers rows offers in
      let before : frees_in old ≡ map (λ f. Some f) (frees_of rows) =
      frees-settled rows old settled known ∙ ap (λ (agents : List AgentRow). map (λ f. Some f) (map (free_of rows) agents)) (sym agents) in
      let stay : after.agents ≡ map agent_row new = agents-with_offers rows offers ∙ agents ∙ sym same in
      put
      ∙ ap (λ (fs : List (Option (List Resource))). known_after fs lefts) before
      ∙ known_after-some (frees_of rows) lefts
      ∙ ap (map (λ f. Some f)) left
      ∙ ap (λ (agents : List AgentRow). map (λ f. Some f) (map (free_of after) agents)) stay

  pub known-left : AllByRecursion (IsKnown (holdings_of (with_offers rows offers))) new
  known-left = known-frees (with_offers rows offers) new frees-left

  pub settled-left : is_settled new ≡ true
  settled-left = settled-frees new (map (free_of (with_offers rows offers)) (map agent_row new)) frees-left

pub AreDerived-with_offers :
    (rows : Rows) (old new : List (Text × Agent)) (sum : List Entry) (number : ℕ) (offers : List OfferRow)
    → AreDerived rows old sum number → IsConsistent (with_offers rows offers)
    → AllByRecursion (IsKnown (holdings_of (with_offers rows offers))) new
    → AreDerived (with_offers rows offers) new sum number
AreDerived-with_offers rows old new sum number offers kept consistent known =
    let added = with_offers-added rows offers in
    record {
      consistent = consistent;
      free = known;
      total = kept.total ∙ sym (ap (λ (rs : Rows). cluster_total rs.agents) added);
      clients = kept.clients ∙ sym (count_clients-counting_all rows.frameworks offers)
          ∙ sym (ap (λ (rs : Rows). length (clients_of rs)) added);
      few = subst (λ (agents : List AgentRow). length agents ≤ 4096) (sym (agents-with_offers rows offers)) kept.few;
    }
