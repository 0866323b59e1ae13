-- The rows after a limit is set, a part of an agent's total is replaced, or the total is replaced.
use Rattle.std.specs.List.{AllByRecursion}
use Rattle.std.specs.Option.{option_map}
use Rattle.std.proofs.Common.{refl, sym, ap, subst, ◌∙◌, arith, ◌≡◌, ℕ, ◌+◌, ◌<◌, ◌≤◌, ◌^◌, Bool, true, false, not, List, [], ◌∷◌, map, filter, Option, Some, None, if◌then◌else◌}
use Rattle.std.proofs.lemmas.List.{length-map}
use Rattle.std.proofs.lemmas.List.Sums.{sum_by-append}
use Rattle.drf_tables.proofs.tables.Names.{Text, same_text, Path, Key, IsBundle, is_default, quantities_of, rest, units, plus, Entry, Resource, IsAgent, IsCovered, cluster_total, Holding, AreBundles, holding_of_offer, holding_of_task, holdings_of, parts_on, bundles-consistent, each_from_both, each_map, unreserved_in, held_unreserved, reserved_for, consumption_where, limits_with, CanExchange, total_at, with_total, with_other_total, exchanged, AgentRow, Rows, IsConsumptionOf, IsRaisedBy, Usage, used_where, CanExchangeOn, CanHaveTotal, CanExchangeAt, HasOther, changed, other_free, with_exchanged, with_other, Agent, Inside}
use Rattle.drf_role.specs.Role.{IsRole}
use Rattle.drf_bundle.specs.Value.{Point}
use Rattle.drf_bundle.specs.laws.BundleLaws.{bundle-empty, known_by_units}
use Rattle.drf_bundle.proofs.theorems.RestLaws.{bundle-rest, units-rest}
use Rattle.drf_bundle.specs.Taken.{units_of_all, rest_of_all}
use Rattle.drf_bundle.proofs.theorems.TakenLaws.{bundle-rest_of_all, rest-itself, units-rest_of_all}
use Rattle.drf_rows.specs.Cycle.{free_of}
use Rattle.drf_row_laws.proofs.HoldingsLaws.{each_part}
use Rattle.drf_row_laws.proofs.LimitLaws.{IsConsistent-limit_set}
use Rattle.drf_row_laws.proofs.QuotaLaws.{consumption_is_part_of_total}
use Rattle.drf_row_laws.proofs.ReservationLaws.{IsConsistent-other_total}
use Rattle.drf_row_laws.proofs.TotalsLaws.{IsConsistent-exchanged, free_of-exchanged, cluster_total-exchanged}
use Rattle.drf_row_laws.proofs.TotalsLaws.{if_named, can_in_total, cluster_total-other_total}
use Rattle.drf_tables.specs.Inside.{agent_row, rows_of, rows_in, IsKnown, AreDerived, IsWhole}
use Rattle.drf_tables.proofs.agents.Changes.{rows_but}
use Rattle.drf_tables.proofs.limits.Counts.{counts-same}
use Rattle.drf_tables.proofs.tables.Fields.{total_fits}
use Rattle.drf_tables.proofs.tables.Kept.{AreDerived-same}
use Rattle.drf_tables.proofs.registry.Known.{rows-each}

-- what holds for the rows holds for the entries
each_entry : (P : AgentRow → Type 0) (es : List (Text × Agent)) → AllByRecursion P (map agent_row es) → AllByRecursion (λ e. P (agent_row e)) es
each_entry P [] all = tt
each_entry P (e ∷ es) all = (all.0, each_entry P es all.1)

-- ---- a limit is set

pub limit-set : (t : Inside) → IsWhole t → (role : Path) (limit : List Entry) → is_default role ≡ false → IsRole role
    → IsWhole (record t { limits = limits_with t.limits role limit })
unfolding rows_of
limit-set t whole role limit other valid = record {
  kept = AreDerived-same (rows_in t) (record (rows_in t) { limits = limits_with (rows_in t).limits role limit }) t.agents.entries t.total t.clients
      whole.kept (IsConsistent-limit_set (rows_in t) role limit other valid whole.kept.consistent) refl refl refl;
  consumed = counts-same (rows_in t) _ t.consumption whole.consumed refl (λ test label. refl);
}

-- ---- a part of an agent's total is replaced

-- the rows of the entries after the replacement
rows-exchanged_entries : (name : Text) (old new : List Resource) (es : List (Text × Agent))
    → map agent_row (map (changed name (with_exchanged old new)) es) ≡ map (total_at name (exchanged old new)) (map agent_row es)
rows-exchanged_entries name old new =
    rows-each (changed name (with_exchanged old new)) (total_at name (exchanged old new)) (λ e. by e (same_text e.0 name))
  where
    by : (e : Text × Agent) (b : Bool)
        → agent_row (if b then (e.0, with_exchanged old new e.1) else e)
        ≡ (if b then record (agent_row e) { total = exchanged old new e.1.total } else agent_row e)
    by e true = refl
    by e false = refl

-- the free resources change as the total does, and stay right
known-exchanged : (hs : List Holding) (name : Text) (old new : List Resource) (es : List (Text × Agent))
    → AllByRecursion (λ e. same_text e.0 name ≡ true
    → exchanged old new (rest_of_all e.1.total (parts_on e.0 hs)) ≡ rest_of_all (exchanged old new e.1.total) (parts_on e.0 hs)) es
    → AllByRecursion (IsKnown hs) es → AllByRecursion (IsKnown hs) (map (changed name (with_exchanged old new)) es)
known-exchanged hs name old new es moves known =
    each_map (IsKnown hs) (changed name (with_exchanged old new)) es
    (each_from_both (λ e. same_text e.0 name ≡ true
    → exchanged old new (rest_of_all e.1.total (parts_on e.0 hs)) ≡ rest_of_all (exchanged old new e.1.total) (parts_on e.0 hs))
    (IsKnown hs) (λ e. IsKnown hs (changed name (with_exchanged old new) e)) es
    (λ e move was. by e was (same_text e.0 name) refl move) moves known)
  where
    here : (e : Text × Agent) (free : Option (List Resource)) → ((f : List Resource) → free ≡ Some f → f ≡ rest_of_all e.1.total (parts_on e.0 hs))
        → exchanged old new (rest_of_all e.1.total (parts_on e.0 hs)) ≡ rest_of_all (exchanged old new e.1.total) (parts_on e.0 hs)
        → (f : List Resource) → option_map (exchanged old new) free ≡ Some f → f ≡ rest_of_all (exchanged old new e.1.total) (parts_on e.0 hs)
    here e None was move f is = cc
    here e (Some g) was move f is =
        let same : exchanged old new g ≡ f = cc in
        sym same ∙ ap (exchanged old new) (was g refl) ∙ move

    by : (e : Text × Agent) → IsKnown hs e → (b : Bool) → same_text e.0 name ≡ b
        → (same_text e.0 name ≡ true
        → exchanged old new (rest_of_all e.1.total (parts_on e.0 hs)) ≡ rest_of_all (exchanged old new e.1.total) (parts_on e.0 hs))
        → IsKnown hs (if b then (e.0, with_exchanged old new e.1) else e)
    by e was true is move = here e e.1.free was (move is)
    by e was false past move = was

module _ (t : Inside) (kept : AreDerived (rows_in t) t.agents.entries t.total t.clients) (name : Text) (old new : List Resource)
    (can : CanExchangeOn (rows_in t) name old new) where
  -- the part can be replaced in the total and in the free resources
  pub can_each : AllByRecursion (λ e. same_text e.0 name ≡ true → CanExchangeAt old new e.1) t.agents.entries
  unfolding rows_of free_of
  can_each =
      let P : AgentRow → Type 0 = λ b. CanExchange b.total old new × CanExchange (free_of (rows_in t) b) old new in
      let all = each_entry (λ b. same_text b.name name ≡ true → P b) t.agents.entries
      (if_named (rows_in t) name can.row kept.consistent can.found P
      (can_in_total (rows_in t) name can.row kept.consistent can.found old new can.can, can.can)) in
      each_from_both (λ e. same_text e.0 name ≡ true → P (agent_row e)) (IsKnown (holdings_of (rows_in t)))
      (λ e. same_text e.0 name ≡ true → CanExchangeAt old new e.1) t.agents.entries
      (λ e both known same. record {
        total = (both same).0;
        free = λ f is. subst (λ (g : List Resource). CanExchange g old new) (sym (known f is)) (both same).1;
      }) all kept.free

  module _ (entries : List (Text × Agent)) (reported : entries ≡ map (changed name (with_exchanged old new)) t.agents.entries) where
    pub rows-exchanged : rows_but t entries t.frameworks.entries t.filters
        ≡ record (rows_in t) { agents = with_total (rows_in t) name (exchanged old new) }
    unfolding rows_of
    rows-exchanged =
        let read = ap (map agent_row) reported ∙ rows-exchanged_entries name old new t.agents.entries in
        λ i. record (rows_in t) { agents = read i }

    moves_each : AllByRecursion (λ e. same_text e.0 name ≡ true
        → exchanged old new (rest_of_all e.1.total (parts_on e.0 (holdings_of (rows_in t))))
        ≡ rest_of_all (exchanged old new e.1.total) (parts_on e.0 (holdings_of (rows_in t)))) t.agents.entries
    unfolding rows_of free_of
    moves_each =
        let P : AgentRow → Type 0 = λ b.
        exchanged old new (rest_of_all b.total (parts_on b.name (holdings_of (rows_in t))))
        ≡ rest_of_all (exchanged old new b.total) (parts_on b.name (holdings_of (rows_in t))) in
        each_entry (λ b. same_text b.name name ≡ true → P b) t.agents.entries
        (if_named (rows_in t) name can.row kept.consistent can.found P
        (sym (free_of-exchanged (rows_in t) name can.row kept.consistent can.found old new can.can)))

    pub kept-exchanged : AreDerived (rows_but t entries t.frameworks.entries t.filters) entries t.total t.clients
    kept-exchanged =
        subst (λ (r : Rows). AreDerived r entries t.total t.clients) (sym rows-exchanged) (record {
          consistent = IsConsistent-exchanged (rows_in t) name can.row kept.consistent can.found old new can.can;
          free = subst (λ (es : List (Text × Agent)). AllByRecursion (IsKnown (holdings_of (rows_in t))) es) (sym reported)
              (known-exchanged (holdings_of (rows_in t)) name old new t.agents.entries moves_each kept.free);
          total = kept.total ∙ sym (cluster_total-exchanged (rows_in t) name can.row kept.consistent can.found old new can.can);
          clients = kept.clients;
          few = omega (arith, length-map (rows_in t).agents (total_at name (exchanged old new)), kept.few);
        })

-- ---- the total of an agent is replaced

rows-other_entries : (kept : Bool) (name : Text) (total : List Resource) (es : List (Text × Agent))
    → map agent_row (map (changed name (with_other kept total)) es) ≡ map (total_at name (λ old. total)) (map agent_row es)
rows-other_entries kept name total =
    rows-each (changed name (with_other kept total)) (total_at name (λ old. total)) (λ e. by e (same_text e.0 name))
  where
    by : (e : Text × Agent) (b : Bool)
        → agent_row (if b then (e.0, with_other kept total e.1) else e)
        ≡ (if b then record (agent_row e) { total = total } else agent_row e)
    by e true = refl
    by e false = refl

-- the old total without its free part is all that is held
other_left : (old new : List Resource) (parts : List (List Resource)) → IsBundle old → IsBundle new → AllByRecursion IsBundle parts
    → ((key : Key) (p : Point) → units_of_all parts key p ≤ units old key p)
    → rest new (rest old (rest_of_all old parts)) ≡ rest_of_all new parts
other_left old new parts is_old is_new each covered =
    let free : List Resource = rest_of_all old parts in
    let is_free : IsBundle free = bundle-rest_of_all old parts is_old in
    let held : List Resource = rest old free in
    let is_held : IsBundle held = bundle-rest old free is_old in
    known_by_units (rest new held) (rest_of_all new parts) (bundle-rest new held is_new) (bundle-rest_of_all new parts is_new)
    (λ key p. omega (
      arith,
      units-rest new held key p is_new.in_order is_held.in_order,
      units-rest old free key p is_old.in_order is_free.in_order,
      units-rest_of_all old parts key p is_old each,
      units-rest_of_all new parts key p is_new each,
      covered key p,
    ))

rest-nothing : (total : List Resource) → IsBundle total → rest total [] ≡ total
rest-nothing total is =
    known_by_units (rest total []) total (bundle-rest total [] is) is
    (λ key p. omega (arith, units-rest total [] key p is.in_order bundle-empty.in_order))

-- if the old total is free as a whole, so is the new one
pub other_left-nothing : (total old : List Resource) → IsBundle total → IsBundle old → rest total (rest old old) ≡ total
other_left-nothing total old is is_old = ap (rest total) (rest-itself old is_old) ∙ rest-nothing total is

-- so the free part of the new total is right
module _ (hs : List Holding) (bundles : AreBundles hs) (name : Text) (total : List Resource) (is_total : IsBundle total) where
  module _ (e : Text × Agent) (known : IsKnown hs e) (agent : IsAgent (agent_row e)) (covered : IsCovered hs (agent_row e)) where
    there : (was : Option (List Resource)) → e.1.free ≡ was
        → (free : List Resource) → other_free total e.1.total was ≡ Some free → free ≡ rest_of_all total (parts_on e.0 hs)
    there None is free left = cc
    there (Some old) is free left =
        let same : rest total (rest e.1.total old) ≡ free = cc in
        sym same ∙ ap (λ (known : List Resource). rest total (rest e.1.total known)) (known old is)
        ∙ other_left e.1.total total (parts_on e.0 hs) agent.total is_total (each_part e.0 hs bundles) covered

    known_one : (kept b : Bool) → IsKnown hs (if b then (e.0, with_other kept total e.1) else e)
    known_one true true = there e.1.free refl
    known_one false true = λ free is. cc
    known_one kept false = known

  known-other : (kept : Bool) (es : List (Text × Agent)) → AllByRecursion (IsKnown hs) es
      → AllByRecursion IsAgent (map agent_row es) → AllByRecursion (IsCovered hs) (map agent_row es)
      → AllByRecursion (IsKnown hs) (map (changed name (with_other kept total)) es)
  known-other kept [] known agents covered = tt
  known-other kept (e ∷ es) known agents covered =
      (known_one e known.0 agents.0 covered.0 kept (same_text e.0 name), known-other kept es known.1 agents.1 covered.1)

module _ (t : Inside) (kept : AreDerived (rows_in t) t.agents.entries t.total t.clients) (name : Text) (total : List Resource) (sum : List Entry)
    (right : CanHaveTotal (rows_in t) name total)
    (summed : sum ≡ plus (cluster_total (filter (λ a. not (same_text a.name name)) (rows_in t).agents)) (quantities_of total))
    (entries : List (Text × Agent)) (reported : HasOther name total t.agents.entries entries) where
  pub rows-other : rows_but t entries t.frameworks.entries t.filters ≡ record (rows_in t) { agents = with_other_total (rows_in t) name total }
  unfolding rows_of
  rows-other =
      let read = ap (map agent_row) reported.same ∙ rows-other_entries reported.kept name total t.agents.entries in
      λ i. record (rows_in t) { agents = read i }

  pub kept-other : AreDerived (rows_but t entries t.frameworks.entries t.filters) entries sum t.clients
  unfolding rows_of
  kept-other =
      let agent : IsAgent (record right.row { total = total }) = record { total = right.bundle; small = right.small } in
      subst (λ (r : Rows). AreDerived r entries sum t.clients) (sym rows-other) (record {
        consistent = IsConsistent-other_total (rows_in t) name right.row total kept.consistent right.found right.bundle right.covered agent;
        free = subst (λ (es : List (Text × Agent)). AllByRecursion (IsKnown (holdings_of (rows_in t))) es) (sym reported.same)
            (known-other (holdings_of (rows_in t)) (bundles-consistent (rows_in t) kept.consistent) name total right.bundle reported.kept t.agents.entries
            kept.free kept.consistent.agents.each kept.consistent.covered);
        total = summed ∙ cluster_total-other_total (rows_in t) name right.row total kept.consistent right.found agent;
        clients = kept.clients;
        few = omega (arith, length-map (rows_in t).agents (total_at name (λ was. total)), kept.few);
      })

-- ---- consumption is computed

module _ (t : Inside) (kept : AreDerived (rows_in t) t.agents.entries t.total t.clients) (test : Path → Bool) (label : Text) where
  abbrev by_offers : ℕ
  by_offers = held_unreserved test (map holding_of_offer t.holdings.offers) label

  abbrev by_tasks : ℕ
  by_tasks = held_unreserved test (map holding_of_task t.holdings.tasks) label

  abbrev by_totals : ℕ
  by_totals = reserved_for test (map agent_row t.agents.entries) label

  pub all_consumed : consumption_where test (rows_in t) label ≡ by_offers + by_tasks + by_totals
  unfolding rows_of
  all_consumed =
      ap (λ n. n + by_totals)
      (sum_by-append (λ (h : Holding). if test h.client.role then unreserved_in label h.bundle else 0) (map holding_of_offer t.holdings.offers) (map holding_of_task t.holdings.tasks))

  pub consumed_fits : by_offers + by_tasks + by_totals < 2 ^ 64
  consumed_fits = omega (
    arith,
    all_consumed,
    consumption_is_part_of_total test (rows_in t) label kept.consistent,
    total_fits (rows_in t).agents label kept.consistent.agents.each kept.few,
  )

-- consumption is computed from zero, by offers, tasks and totals
pub counted-all : (t : Inside) (kept : AreDerived (rows_in t) t.agents.entries t.total t.clients)
    (none one two three : List Usage)
    → none ≡ []
    → IsRaisedBy none one (λ test label. held_unreserved test (map holding_of_offer t.holdings.offers) label)
    → IsRaisedBy one two (λ test label. held_unreserved test (map holding_of_task t.holdings.tasks) label)
    → IsRaisedBy two three (λ test label. reserved_for test (map agent_row t.agents.entries) label)
    → IsConsumptionOf (rows_in t) three
counted-all t kept none one two three forgot first second third = λ test label.
    omega (
      arith,
      third test label,
      second test label,
      first test label,
      ap (λ (us : List Usage). used_where test us label) forgot,
      all_consumed t kept test label,
    )
