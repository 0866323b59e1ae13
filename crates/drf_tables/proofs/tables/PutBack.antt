-- The tables after a saved offer or task is added.
use Rattle.std.specs.List.{list_all, list_any}
use Rattle.std.specs.Map.{lookup}
use Rattle.std.specs.Option.{option_map, option_map_or}
use Rattle.std.proofs.Common.{refl, sym, ap, subst, ◌∙◌, ◌≡◌, Bool, true, false, not, List, [], ◌∷◌, ◌++◌, map, Option, Some, None}
use Rattle.std.proofs.lemmas.Bool.{and_parts, not-true, or_from}
use Rattle.std.proofs.lemmas.List.Folds.{list_all-append}
use Rattle.drf_tables.proofs.tables.Names.{Path, Text, same_text, covers, part_for, rest, Resource, are_distinct_tasks, IsConsistent, IsHeld, Holding, holdings_of, holding_of_offer, holding_of_task, has_agent, agent_at, AgentRow, OfferRow, Rows, changed, with_held, Agent, Inside}
use Rattle.drf_rows.specs.Cycle.{free_of}
use Rattle.drf_rows.specs.Releases.{is_task}
use Rattle.drf_row_laws.proofs.ReleaseLaws.{IsOneLess, is_task-swap, one-one_less}
use Rattle.drf_saved.specs.Saved.{is_usable}
use Rattle.drf_rows.specs.declared.rows.TaskRow.{TaskRow}
use Rattle.drf_holdings.specs.Stored.{OffersAndTasks}
use Rattle.drf_tables.specs.Inside.{agent_row, rows_in, rows_of, AreDerived}
use Rattle.drf_tables.proofs.tables.Fields.{agents_in}
use Rattle.drf_tables.proofs.registry.Held.{AreDerived-held, one_more-offer, one_more-task, rows-held}

-- the rows with one more offer
abbrev pub offer_put : Rows → OfferRow → Rows
offer_put rows o = record rows { offers = rows.offers ++ o ∷ [] }

abbrev pub task_put : Rows → TaskRow → Rows
task_put rows x = record rows { tasks = rows.tasks ++ x ∷ [] }

-- a holding is on a registered agent
known_agent : (old new : Rows) (h : Holding) → IsOneLess (holdings_of new) (holdings_of old) h → IsConsistent new → has_agent new h.agent ≡ true
known_agent old new h more consistent =
    (one-one_less (holdings_of new) (holdings_of old) h more (IsHeld new.agents new.frameworks) consistent.holdings).agent

pub agent_of-offer : (rows : Rows) (o : OfferRow) → IsConsistent (offer_put rows o) → has_agent rows o.agent ≡ true
agent_of-offer rows o = known_agent rows (offer_put rows o) (holding_of_offer o) (one_more-offer rows o)

pub agent_of-task : (rows : Rows) (x : TaskRow) → IsConsistent (task_put rows x) → has_agent rows x.agent ≡ true
agent_of-task rows x = known_agent rows (task_put rows x) (holding_of_task x) (one_more-task rows x)

-- the name of a new task differs from those of its framework's other tasks
pub new_task : (ts : List TaskRow) (x : TaskRow) → are_distinct_tasks (ts ++ x ∷ []) ≡ true → list_any (is_task x.framework x.name) ts ≡ false
new_task [] x apart = refl
new_task (t ∷ ts) x apart =
    let other : TaskRow → Bool = λ u. not (is_task t.framework t.name u) in
    let parts = and_parts (list_all other (ts ++ x ∷ [])) (are_distinct_tasks (ts ++ x ∷ [])) apart in
    let both = and_parts (list_all other ts) (list_all other (x ∷ [])) (sym (list_all-append other ts (x ∷ [])) ∙ parts.0) in
    let last = and_parts (other x) true both.1 in
    or_from (is_task x.framework x.name t) (list_any (is_task x.framework x.name) ts)
    (is_task-swap x t ∙ not-true (is_task t.framework t.name x) last.0) (new_task ts x parts.1)

-- ---- usable resources

-- the test reads the free resources of the agent, if it is registered
pub usable_free : (rows : Rows) (name : Text) (role : Path) (bundle : List Resource) (free : Option (List Resource))
    → free ≡ option_map (free_of rows) (agent_at rows name)
    → option_map_or (λ f. covers (part_for role f) bundle) free false ≡ is_usable rows name role bundle
usable_free rows name role bundle free is =
    ap (λ (o : Option (List Resource)). option_map_or (λ f. covers (part_for role f) bundle) o false) is ∙ by (agent_at rows name)
  where
    by : (found : Option AgentRow) → option_map_or (λ f. covers (part_for role f) bundle) (option_map (free_of rows) found) false
        ≡ option_map_or (λ a. covers (part_for role (free_of rows a)) bundle) found false
    by (Some a) = refl
    by None = refl

-- ---- free resources that remain

-- the remaining resources are the free ones after one more part is held
left_held : (a : Agent) (part : List Resource) (left : Option (List Resource)) → left ≡ option_map (λ known. rest known part) a.free
    → with_held part a ≡ record a { free = left }
left_held a part left is = λ i. record a { free = sym is i }

-- the agent changes in this way if it is found by a copy of its name
pub reported_held : (old new : List (Text × Agent)) (name copy : Text) (part : List Resource) (left : Option (List Resource)) (a : Agent)
    → lookup (same_text name) old ≡ Some a → left ≡ option_map (λ known. rest known part) a.free → copy ≡ name
    → ((change : Agent → Agent) (a : Agent) → lookup (same_text copy) old ≡ Some a → change a ≡ record a { free = left } → new ≡ map (changed copy change) old)
    → new ≡ map (changed name (with_held part)) old
reported_held old new name copy part left a at is same set =
    subst (λ (n : Text). (change : Agent → Agent) (a : Agent) → lookup (same_text n) old ≡ Some a → change a ≡ record a { free = left }
    → new ≡ map (changed n change) old) same set (with_held part) a at (left_held a part left is)

module _ (t : Inside) (kept : AreDerived (rows_in t) t.agents.entries t.total t.clients) (entries : List (Text × Agent)) (held : OffersAndTasks) where
  -- the rows after agents and holdings change
  abbrev rows_now : Rows
  rows_now = rows_of entries t.frameworks.entries held t.filters t.weights.entries t.limits t.clock t.next_offer t.events

  module _ (o : OfferRow) (reported : entries ≡ map (changed o.agent (with_held o.bundle)) t.agents.entries)
      (offers : held.offers ≡ t.holdings.offers ++ o ∷ []) (tasks : held.tasks ≡ t.holdings.tasks) where
    pub rows-offer_put : rows_now ≡ offer_put (rows_in t) o
    unfolding rows_of
    rows-offer_put =
        let read = ap (map agent_row) reported ∙ rows-held o.agent o.bundle t.agents.entries in
        λ i. record (rows_in t) { agents = read i; offers = offers i; tasks = tasks i }

    pub kept-offer_put : IsConsistent (offer_put (rows_in t) o) → AreDerived rows_now entries t.total t.clients
    kept-offer_put consistent =
        subst (λ (q : Rows × List (Text × Agent)). AreDerived q.0 q.1 t.total t.clients) (λ i. (sym rows-offer_put i, sym reported i))
        (AreDerived-held (rows_in t) (offer_put (rows_in t) o) t.agents.entries t.total t.clients (holding_of_offer o) consistent
        (one_more-offer (rows_in t) o) refl (agents_in t) kept)

  module _ (x : TaskRow) (reported : entries ≡ map (changed x.agent (with_held x.bundle)) t.agents.entries)
      (tasks : held.tasks ≡ t.holdings.tasks ++ x ∷ []) (offers : held.offers ≡ t.holdings.offers) where
    pub rows-task_put : rows_now ≡ task_put (rows_in t) x
    unfolding rows_of
    rows-task_put =
        let read = ap (map agent_row) reported ∙ rows-held x.agent x.bundle t.agents.entries in
        λ i. record (rows_in t) { agents = read i; offers = offers i; tasks = tasks i }

    pub kept-task_put : IsConsistent (task_put (rows_in t) x) → AreDerived rows_now entries t.total t.clients
    kept-task_put consistent =
        subst (λ (q : Rows × List (Text × Agent)). AreDerived q.0 q.1 t.total t.clients) (λ i. (sym rows-task_put i, sym reported i))
        (AreDerived-held (rows_in t) (task_put (rows_in t) x) t.agents.entries t.total t.clients (holding_of_task x) consistent
        (one_more-task (rows_in t) x) refl (agents_in t) kept)
