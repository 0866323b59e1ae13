-- What is saved of rows that can be saved is accepted, row by row.
use Rattle.std.specs.Prelude.{◌≡◌, ℕ, ◌+◌, ◌*◌, ◌^◌, ◌≤◌, Bool, true, false, not, ◌&&◌, ◌||◌, List, [], ◌∷◌, ◌++◌, length, map, filter, find, flat_map, fold, sum_by, None, nat_lt, nat_le, IsTrue}
use Rattle.std.specs.List.{list_all, list_any, AllByRecursion}
use Rattle.std.proofs.Common.{refl, sym, ap, subst, ◌∙◌, inl, inr, cond, arith, append_assoc, length-append}
use Rattle.std.proofs.lemmas.Bool.{and_parts, cases_Bool, false≢true, le-leb, le-ltb, lt-leb, ltb-true, not-true, not_from_true, or_from, true_from_ne_false}
use Rattle.std.proofs.lemmas.Grind.{flat_map-append}
use Rattle.std.proofs.lemmas.List.{append-nil, length-map, map-append}
use Rattle.std.proofs.lemmas.List.Folds.{list_all-append}
use Rattle.std.proofs.lemmas.List.Sums.{fold-append, length-filter, sum_by-append, sum_by-cons}
use Rattle.drf_role.specs.Text.{Text, same_text}
use Rattle.drf_role.specs.TextLaws.{same_from_test}
use Rattle.drf_role.specs.Path.{Path}
use Rattle.drf_bundle.specs.Bundle.{IsBundle, is_default, quantities_of, units}
use Rattle.drf_bundle.specs.Quantities.{amount_of, is_in_order, plus}
use Rattle.drf_bundle.proofs.theorems.QuantitiesLaws.{amount_first, amount_head, in_order-plus, length-plus, stands_first}
use Rattle.drf_bundle.proofs.theorems.UnitProofs.{quantities_no_zeros}
use Rattle.drf_bundle.specs.declared.quantities.Entry.{Entry}
use Rattle.drf_rows.specs.Client.{Client}
use Rattle.drf_rows.specs.Consistent.{are_distinct, are_distinct_roles, are_distinct_tasks, are_rising, offers_counted, IsAgent, IsFilter, IsHeld}
use Rattle.drf_rows.specs.Filters.{in_force, is_in_force}
use Rattle.drf_rows.specs.Held.{client_of, clients_of, cluster_total, is_registered}
use Rattle.drf_rows.specs.Holdings.{Holding, holding_of_offer, holding_of_task, holdings_of}
use Rattle.drf_rows.specs.LimitNumbers.{LimitNumbers}
use Rattle.drf_rows.specs.Members.{has_agent, has_framework}
use Rattle.drf_rows.specs.Offers.{is_empty}
use Rattle.drf_rows.specs.Weights.{is_weight}
use Rattle.drf_row_laws.proofs.ConsistentLaws.{bundles-consistent, same_text-swap}
use Rattle.drf_row_laws.proofs.CycleLaws.{bundle-free_of, units-free_of}
use Rattle.drf_row_laws.proofs.ReleaseLaws.{each-one}
use Rattle.drf_laws.specs.HeldForLaws.{IsForItsRole}
use Rattle.drf_row_laws.proofs.HoldingsLaws.{units_on, units_on-append, units_on-cons}
use Rattle.drf_bundle.proofs.ListLaws.{each_filter, each_parts}
use Rattle.drf_row_laws.proofs.ReservationLaws.{found_known}
use Rattle.drf_row_laws.proofs.TotalsLaws.{at, is_agent, is_covered, no_zeros-total}
use Rattle.drf_rows.specs.declared.limits.TheConstants.{LARGEST_AMOUNT, LATEST_TIMESTAMP}
use Rattle.drf_rows.specs.declared.rows.AgentRow.{AgentRow}
use Rattle.drf_rows.specs.declared.rows.FilterRow.{FilterRow}
use Rattle.drf_rows.specs.declared.rows.FrameworkRow.{FrameworkRow}
use Rattle.drf_rows.specs.declared.rows.LimitRow.{LimitRow}
use Rattle.drf_rows.specs.declared.rows.OfferRow.{OfferRow}
use Rattle.drf_rows.specs.declared.rows.Rows.{Rows}
use Rattle.drf_rows.specs.declared.rows.TaskRow.{TaskRow}
use Rattle.drf_rows.specs.declared.rows.WeightRow.{WeightRow}
use Rattle.drf_laws.proofs.theorems.Clients.{unregistered}
use Rattle.drf_saved.specs.Saved.{begun, head_fault, head_of, is_usable, owner_cases, restored_from, row_fault, with_row}
use Rattle.drf_saved.specs.declared.saved.SavedRow.{SavedRow}
use Rattle.drf_saved.specs.declared.saved.SavedRow.TheVariants.{Agent, Framework, Weight, Limit, Offer, Task, Filter}
use Rattle.drf_saved_laws.specs.SavedLaws.{IsSaveable, SavedIsRestored}
use Rattle.drf_saved_laws.proofs.theorems.Apart.{names_before, numbers_before, roles_before, tasks_before}
use Rattle.drf_saved_laws.proofs.theorems.Faults.{NoneHolds, goes_first, goes_head, no_head_fault, no_row_fault}
use Rattle.drf_saved_laws.proofs.theorems.Room.{usable_of}

-- ---- a row at its index in a table

module _ {X : Type 0} (xs before after : List X) (x : X) (stands : xs ≡ before ++ x ∷ after) where
  -- what holds for all rows of the table holds for it
  its : (P : X → Type 0) → AllByRecursion P xs → P x
  its P all = each-one P before after x (subst (AllByRecursion P) stands all)

  passes : (test : X → Bool) → list_all test xs ≡ true → test x ≡ true
  passes test all =
      let parts = and_parts (list_all test before) (test x && list_all test after)
      (sym (list_all-append test before (x ∷ after)) ∙ ap (list_all test) (sym stands) ∙ all) in
      (and_parts (test x) (list_all test after) parts.1).0

  -- the prefix of the table that ends with it is not longer than the table
  prefix_length : length (before ++ x ∷ []) ≤ length xs
  prefix_length = omega (arith, ap length stands, length-append before (x ∷ after), length-append before (x ∷ []))

  prefix_count : length before + 1 ≤ length xs
  prefix_count = omega (arith, prefix_length, length-append before (x ∷ []))

-- ---- agents

-- no entry is greater than the upper bound of all amounts
small_entries : (es : List Entry) (most : ℕ) → IsTrue (is_in_order es) → ((label : Text) → amount_of es label ≤ most)
    → list_any (λ e. nat_lt most e.amount) es ≡ false
small_entries [] most ordered small = refl
small_entries (e ∷ es) most ordered small =
    let parts = and_parts (stands_first e.label es) (is_in_order es) ordered in
    let later : (label : Text) → amount_of es label ≤ most = λ label. elim (cases_Bool (same_text e.label label)) [
      | inl same ↦
          let name : e.label ≡ label = same_from_test e.label label same in
          omega (arith, ap (amount_of es) (sym name), amount_first e.label es parts.0)
      | inr other ↦ omega (arith, small label, ap (λ b. cond b e.amount (amount_of es label)) other)
    ] in
    or_from (nat_lt most e.amount) (list_any (λ f. nat_lt most f.amount) es)
    (le-ltb most e.amount (omega (arith, small e.label, amount_head e es))) (small_entries es most parts.1 later)

-- more agents do not have fewer scalar names
names_grow : (sum : List Entry) (agents : List AgentRow) → IsTrue (is_in_order sum) → AllByRecursion IsAgent agents
    → length sum ≤ length (fold (λ s a. plus s (quantities_of a.total)) sum agents)
names_grow sum [] ordered each = omega arith
names_grow sum (a ∷ agents) ordered each = omega (
  arith,
  length-plus sum (quantities_of a.total) ordered (quantities_no_zeros a.total each.0.total).in_order,
  names_grow (plus sum (quantities_of a.total)) agents (in_order-plus sum (quantities_of a.total) ordered) each.1,
)

module _ (limits : LimitNumbers) (rows : Rows) (can : IsSaveable limits rows) where
  -- ---- the rows that the list restores, up to an index in a table

  abbrev with_agents : List AgentRow → Rows
  with_agents before = record (begun (head_of rows)) { agents = before }

  abbrev with_frameworks : List FrameworkRow → Rows
  with_frameworks before = record (with_agents rows.agents) { frameworks = before }

  abbrev with_weights : List WeightRow → Rows
  with_weights before = record (with_frameworks rows.frameworks) { weights = before }

  abbrev with_limits : List LimitRow → Rows
  with_limits before = record (with_weights rows.weights) { limits = before }

  abbrev with_offers : List OfferRow → Rows
  with_offers before = record (with_limits rows.limits) { offers = before }

  abbrev with_tasks : List TaskRow → Rows
  with_tasks before = record (with_offers rows.offers) { tasks = before }

  abbrev with_filters : List FilterRow → Rows
  with_filters before = record (with_tasks rows.tasks) { filters = before }

  -- ---- each row may follow those before it

  agent_stands : (before after : List AgentRow) (a : AgentRow) → rows.agents ≡ before ++ a ∷ after
      → row_fault limits (with_agents before) (Agent a) ≡ None
  agent_stands before after a stands =
      let prefix : List AgentRow = before ++ a ∷ [] in
      let split : rows.agents ≡ prefix ++ after = stands ∙ sym (append_assoc before (a ∷ []) after) in
      let is : IsAgent a = its rows.agents before after a stands IsAgent can.consistent.agents.each in
      let new = names_before (λ (b : AgentRow). b.name) before after a
      (subst (λ (agents : List AgentRow). are_distinct (map (λ b. b.name) agents) ≡ true) stands can.consistent.agents.names) in
      let small = small_entries (quantities_of a.total) LARGEST_AMOUNT (quantities_no_zeros a.total is.total).in_order is.small in
      let each = each_parts IsAgent prefix after (subst (AllByRecursion IsAgent) split can.consistent.agents.each) in
      let names : length (cluster_total prefix) ≤ limits.scalar_names = omega (
        arith,
        names_grow (cluster_total prefix) after (no_zeros-total prefix each.0).in_order each.1,
        ap length (sym (fold-append (λ s (b : AgentRow). plus s (quantities_of b.total)) [] prefix after)),
        ap (λ (agents : List AgentRow). length (cluster_total agents)) split,
        can.within.names,
      ) in
      let few = or_from (nat_lt limits.agents (length prefix)) (nat_lt limits.scalar_names (length (cluster_total prefix)))
      (le-ltb limits.agents (length prefix) (omega (arith, prefix_length rows.agents before after a stands, can.within.agents)))
      (le-ltb limits.scalar_names (length (cluster_total prefix)) names) in
      no_row_fault limits (with_agents before) (Agent a) (refl, (new, (small, (few, tt))))

  framework_stands : (before after : List FrameworkRow) (f : FrameworkRow) → rows.frameworks ≡ before ++ f ∷ after
      → row_fault limits (with_frameworks before) (Framework f) ≡ None
  framework_stands before after f stands =
      let state : Rows = with_frameworks before in
      let new = names_before (λ (g : FrameworkRow). g.name) before after f
      (subst (λ (fs : List FrameworkRow). are_distinct (map (λ g. g.name) fs) ≡ true) stands can.consistent.frameworks.names) in
      let roles = its rows.frameworks before after f stands (λ g. are_distinct_roles (map (λ c. c.role) g.clients) ≡ true) can.consistent.frameworks.roles in
      let its_few : length f.clients ≤ limits.roles =
      its rows.frameworks before after f stands (λ g. length g.clients ≤ limits.roles) can.within.roles_of_each in
      let clients : FrameworkRow → List Client = λ g. map (client_of g) g.clients in
      let all : length (clients_of rows) ≡ length (clients_of state) + (length f.clients + length (flat_map clients after)) = omega (
        arith,
        ap (λ (fs : List FrameworkRow). length (flat_map clients fs)) stands,
        ap length (flat_map-append clients before (f ∷ after)),
        length-append (flat_map clients before) (clients f ++ flat_map clients after),
        length-append (clients f) (flat_map clients after),
        length-map f.clients (client_of f),
      ) in
      let few = or_from (nat_lt limits.frameworks (length before + 1)) (nat_lt limits.roles (length f.clients) || nat_lt limits.clients (length (clients_of state) + length f.clients))
      (le-ltb limits.frameworks (length before + 1) (omega (arith, prefix_count rows.frameworks before after f stands, can.within.frameworks)))
      (or_from (nat_lt limits.roles (length f.clients)) (nat_lt limits.clients (length (clients_of state) + length f.clients))
      (le-ltb limits.roles (length f.clients) its_few)
      (le-ltb limits.clients (length (clients_of state) + length f.clients) (omega (arith, all, can.within.clients)))) in
      let count : FrameworkRow → ℕ = λ g. sum_by (λ c. c.count) g.clients in
      let counted = lt-leb rows.next_offer (offers_counted (before ++ f ∷ [])) (omega (
        arith,
        can.consistent.counted,
        ap offers_counted stands,
        sum_by-append count before (f ∷ after),
        sum_by-cons count f after,
        sum_by-append count before (f ∷ []),
        sum_by-cons count f [],
      )) in
      no_row_fault limits state (Framework f) (refl, (new, (few, (ap not roles, (counted, tt)))))

  weight_stands : (before after : List WeightRow) (w : WeightRow) → rows.weights ≡ before ++ w ∷ after
      → row_fault limits (with_weights before) (Weight w) ≡ None
  weight_stands before after w stands =
      let new = roles_before (λ (v : WeightRow). v.role) before after w
      (subst (λ (ws : List WeightRow). are_distinct_roles (map (λ v. v.role) ws) ≡ true) stands can.consistent.weights.roles) in
      let right = passes rows.weights before after w stands (λ v. is_weight v.weight) can.consistent.weights.each in
      let few = le-ltb limits.weights (length before + 1) (omega (arith, prefix_count rows.weights before after w stands, can.within.weights)) in
      no_row_fault limits (with_weights before) (Weight w) (refl, (new, (ap not right, (few, tt))))

  limit_stands : (before after : List LimitRow) (l : LimitRow) → rows.limits ≡ before ++ l ∷ after
      → row_fault limits (with_limits before) (Limit l) ≡ None
  limit_stands before after l stands =
      let new = roles_before (λ (m : LimitRow). m.role) before after l
      (subst (λ (ls : List LimitRow). are_distinct_roles (map (λ m. m.role) ls) ≡ true) stands can.consistent.limits.roles) in
      let right = and_parts (not (is_default l.role)) (nat_lt 0 (length l.limit))
      (passes rows.limits before after l stands (λ m. not (is_default m.role) && nat_lt 0 (length m.limit)) can.consistent.limits.each) in
      let its_few : length l.limit ≤ limits.scalar_names =
      its rows.limits before after l stands (λ m. length m.limit ≤ limits.scalar_names) can.within.names_of_each in
      let few = or_from (nat_lt limits.limits (length before + 1)) (nat_lt limits.scalar_names (length l.limit))
      (le-ltb limits.limits (length before + 1) (omega (arith, prefix_count rows.limits before after l stands, can.within.limits_of_roles)))
      (le-ltb limits.scalar_names (length l.limit) its_few) in
      no_row_fault limits (with_limits before) (Limit l)
      (refl, (not-true (is_default l.role) right.0, (some_names l.limit right.1, (new, (few, tt)))))
    where
      some_names : (es : List Entry) → nat_lt 0 (length es) ≡ true → is_empty es ≡ false
      some_names [] some = cc
      some_names (e ∷ es) some = refl

  -- ---- holdings

  owner_stands : (agent framework : Text) (role : Path) → has_agent rows agent ≡ true
      → is_registered rows.frameworks (record { role = role; framework = framework }) ≡ true → NoneHolds (owner_cases rows agent framework role)
  owner_stands agent framework role there known =
      let client : Client = record { role = role; framework = framework } in
      let named : has_framework rows framework ≡ true =
      true_from_ne_false (has_framework rows framework) (λ none. false≢true (sym (unregistered rows.frameworks client none) ∙ known)) in
      (ap not there, (ap not named, (ap not known, tt)))

  module _ (state : Rows) (h : Holding) (behind : List Holding) (agents : state.agents ≡ rows.agents)
      (stands : holdings_of rows ≡ holdings_of state ++ h ∷ behind) where
    its_held : IsHeld rows.agents rows.frameworks h
    its_held = its (holdings_of rows) (holdings_of state) behind h stands (IsHeld rows.agents rows.frameworks) can.consistent.holdings

    -- the holdings before it leave enough for it
    holding_usable : not (is_usable state h.agent h.client.role h.bundle) ≡ false
    holding_usable =
        let known = found_known rows h.agent its_held.agent in
        let a : AgentRow = known.0 in
        let total = (is_agent rows h.agent a can.consistent known.1).total in
        let here : same_text h.agent a.name ≡ true = same_text-swap h.agent a.name ∙ (at rows h.agent a can.consistent known.1).1 in
        let bundles = (each_parts (λ (g : Holding). IsBundle g.bundle) (holdings_of state) (h ∷ behind)
        (subst (AllByRecursion (λ g. IsBundle g.bundle)) stands (bundles-consistent rows can.consistent))).0 in
        not_from_true (is_usable state h.agent h.client.role h.bundle) (usable_of state h its_held.bundle (record {
          row = a;
          found = ap (find (λ (b : AgentRow). same_text b.name h.agent)) agents ∙ known.1;
          fits = λ key p. omega (
            arith,
            units-free_of state a key p total bundles,
            is_covered rows h.agent a can.consistent known.1 key p,
            ap (λ (hs : List Holding). units_on a.name hs key p) stands,
            units_on-append a.name key p (holdings_of state) (h ∷ behind),
            units_on-cons a.name key p h behind,
            ap (λ (b : Bool). cond b (units h.bundle key p) 0) here,
          );
          own = its (holdings_of rows) (holdings_of state) behind h stands IsForItsRole can.own;
        }) (bundle-free_of state a total))

  offer_stands : (before after : List OfferRow) (o : OfferRow) → rows.offers ≡ before ++ o ∷ after
      → row_fault limits (with_offers before) (Offer o) ≡ None
  offer_stands before after o stands =
      let state : Rows = with_offers before in
      let behind : List Holding = map holding_of_offer after ++ map holding_of_task rows.tasks in
      let place : holdings_of rows ≡ holdings_of state ++ holding_of_offer o ∷ behind =
      ap (λ (os : List OfferRow). map holding_of_offer os ++ map holding_of_task rows.tasks) stands ∙ simp (map-append, append-nil, append_assoc) in
      let held = its_held state (holding_of_offer o) behind refl place in
      let owner = owner_stands o.agent o.framework o.role held.agent held.client in
      let rising = numbers_before before after o rows.next_offer
      (subst (λ (os : List OfferRow). are_rising (map (λ p. p.number) os) rows.next_offer ≡ true) stands can.consistent.numbered) in
      let numbers = or_from (not (list_all (λ p. nat_lt p.number o.number) before)) (nat_le rows.next_offer o.number) (ap not rising.0)
      (lt-leb rows.next_offer o.number (ltb-true o.number rows.next_offer rising.1)) in
      no_row_fault limits state (Offer o)
      (refl, (owner.0, (owner.1.0, (owner.1.1.0, (holding_usable state (holding_of_offer o) behind refl place, (numbers, tt))))))

  task_stands : (before after : List TaskRow) (t : TaskRow) → rows.tasks ≡ before ++ t ∷ after
      → row_fault limits (with_tasks before) (Task t) ≡ None
  task_stands before after t stands =
      let state : Rows = with_tasks before in
      let behind : List Holding = map holding_of_task after in
      let place : holdings_of rows ≡ holdings_of state ++ holding_of_task t ∷ behind =
      ap (λ (ts : List TaskRow). map holding_of_offer rows.offers ++ map holding_of_task ts) stands ∙ simp (map-append, append_assoc) in
      let held = its_held state (holding_of_task t) behind refl place in
      let owner = owner_stands t.agent t.framework t.role held.agent held.client in
      let new = tasks_before before after t (subst (λ (ts : List TaskRow). are_distinct_tasks ts ≡ true) stands can.consistent.tasks) in
      no_row_fault limits state (Task t)
      (refl, (owner.0, (owner.1.0, (owner.1.1.0, (new, (holding_usable state (holding_of_task t) behind refl place, tt))))))

  -- ---- filters in force

  filter_stands : (before after : List FilterRow) (f : FilterRow) → in_force rows.clock rows.filters ≡ before ++ f ∷ after
      → row_fault limits (with_filters before) (Filter f) ≡ None
  filter_stands before after f stands =
      let live : List FilterRow = in_force rows.clock rows.filters in
      let Is : FilterRow → Type 0 = IsFilter rows.agents rows.frameworks in
      let is : Is f = its live before after f stands Is (each_filter Is (is_in_force rows.clock) rows.filters can.consistent.filters) in
      let late = its live before after f stands (λ g. is_in_force rows.clock g ≡ true) (all_kept (is_in_force rows.clock) rows.filters) in
      let owner = owner_stands f.agent f.framework f.role is.agent is.client in
      let numbers = or_from (nat_le f.until rows.clock) (nat_le (2 ^ 63) f.until) (lt-leb f.until rows.clock (ltb-true rows.clock f.until late))
      (lt-leb (2 ^ 63) f.until is.until) in
      let few = lt-leb limits.filters (length before) (omega (
        arith,
        prefix_count live before after f stands,
        length-filter (is_in_force rows.clock) rows.filters,
        can.within.filters_in_force,
      )) in
      no_row_fault limits (with_filters before) (Filter f) (owner.0, (owner.1.0, (owner.1.1.0, (numbers, (few, tt)))))
    where
      all_kept : {X : Type 0} (test : X → Bool) (xs : List X) → AllByRecursion (λ x. test x ≡ true) (filter test xs)
      all_kept test [] = tt
      all_kept test (x ∷ xs) = elim (cases_Bool (test x)) [
        | inl here ↦ rw here (here, all_kept test xs)
        | inr past ↦ rw past (all_kept test xs)
      ]

  -- ---- the numbers of the head

  head_stands : head_fault limits (head_of rows) ≡ None
  head_stands =
      let numbers = or_from (not (nat_le 1 rows.next_offer)) (nat_lt (1 + rows.events * 2 ^ 24) rows.next_offer)
      (not_from_true (nat_le 1 rows.next_offer) (le-leb 1 rows.next_offer (omega (arith, can.consistent.counted))))
      (le-ltb (1 + rows.events * 2 ^ 24) rows.next_offer can.numbered) in
      no_head_fault limits (head_of rows)
      (le-ltb limits.events rows.events can.within.events, (le-ltb LATEST_TIMESTAMP rows.clock can.consistent.early, (numbers, tt)))

-- ---- table by table

-- a table of which each row may follow those before it is accepted as a whole
table_taken : {X : Type 0} (limits : LimitNumbers) (variant : X → SavedRow) (state : List X → Rows) (table : List X)
    → ((before : List X) (x : X) → with_row (state before) (variant x) ≡ state (before ++ x ∷ []))
    → ((before after : List X) (x : X) → table ≡ before ++ x ∷ after → row_fault limits (state before) (variant x) ≡ None)
    → (before after : List X) → table ≡ before ++ after → (behind : List SavedRow)
    → restored_from limits (state before) (map variant after ++ behind) ≡ restored_from limits (state table) behind
table_taken limits variant state table step stand before [] is behind =
    ap (λ xs. restored_from limits (state xs) behind) (sym (append-nil before) ∙ sym is)
table_taken limits variant state table step stand before (x ∷ after) is behind =
    goes_first limits (state before) (variant x) (map variant after ++ behind) (stand before after x is)
    ∙ ap (λ r. restored_from limits r (map variant after ++ behind)) (step before x)
    ∙ table_taken limits variant state table step stand (before ++ x ∷ []) after (is ∙ sym (append_assoc before (x ∷ []) after)) behind

pub saved_is_restored : SavedIsRestored
saved_is_restored limits rows can =
    let filters : List FilterRow = in_force rows.clock rows.filters in
    let fs : List SavedRow = map Filter filters in
    let ts : List SavedRow = map Task rows.tasks ++ fs in
    let os : List SavedRow = map Offer rows.offers ++ ts in
    let ls : List SavedRow = map Limit rows.limits ++ os in
    let ws : List SavedRow = map Weight rows.weights ++ ls in
    let gs : List SavedRow = map Framework rows.frameworks ++ ws in
    goes_head limits (head_of rows) (map Agent rows.agents ++ gs) (head_stands limits rows can)
    ∙ table_taken limits Agent (with_agents limits rows can) rows.agents (λ before x. refl) (agent_stands limits rows can) [] rows.agents refl gs
    ∙ table_taken limits Framework (with_frameworks limits rows can) rows.frameworks (λ before x. refl) (framework_stands limits rows can) [] rows.frameworks refl ws
    ∙ table_taken limits Weight (with_weights limits rows can) rows.weights (λ before x. refl) (weight_stands limits rows can) [] rows.weights refl ls
    ∙ table_taken limits Limit (with_limits limits rows can) rows.limits (λ before x. refl) (limit_stands limits rows can) [] rows.limits refl os
    ∙ table_taken limits Offer (with_offers limits rows can) rows.offers (λ before x. refl) (offer_stands limits rows can) [] rows.offers refl ts
    ∙ table_taken limits Task (with_tasks limits rows can) rows.tasks (λ before x. refl) (task_stands limits rows can) [] rows.tasks refl fs
    ∙ ap (restored_from limits (with_filters limits rows can [])) (sym (append-nil fs))
    ∙ table_taken limits Filter (with_filters limits rows can) filters (λ before x. refl) (filter_stands limits rows can) [] filters refl []
