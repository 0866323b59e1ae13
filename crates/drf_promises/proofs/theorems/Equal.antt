-- With equal agents, a cycle gives each top-level role its part in whole agents.
use Rattle.std.specs.Prelude.{◌≡◌, ℕ, ◌+◌, ◌*◌, ◌<◌, ◌≤◌, Bool, true, false, List, [], ◌∷◌, ◌++◌, length, map, filter, sum_by, nat_lt, nat_le, codes, IsTrue, if◌then◌else◌}
use Rattle.std.specs.List.{AllByRecursion, list_all}
use Rattle.std.proofs.Common.{refl, sym, ap, subst, ◌∙◌, inl, inr, cond, arith, append-nil}
use Rattle.std.proofs.Math.Nat.{mul-le-mul_right, le_of_mul-le-mul_right, one-le-mul}
use Rattle.std.proofs.lemmas.Bool.{cases_Bool, and_parts, or_cases, leb-true}
use Rattle.std.proofs.lemmas.List.Sums.{sum_by-cons}
use Rattle.drf_role.specs.Path.{Path}
use Rattle.drf_role.specs.Text.{Text, text_below}
use Rattle.drf_role.proofs.TextLaws.{below_other}
use Rattle.drf_bundle.specs.Bundle.{quantities_of}
use Rattle.drf_bundle.specs.Quantities.{amount_of, is_in_order}
use Rattle.drf_bundle.proofs.theorems.QuantitiesLaws.{amount_head}
use Rattle.drf_bundle.specs.declared.quantities.Entry.{Entry}
use Rattle.drf_bundle.specs.declared.resource.Resource.{Resource}
use Rattle.drf_rows.specs.Consistent.{IsConsistent}
use Rattle.drf_rows.specs.Cycle.{is_allocatable, at_timestamp, cycle}
use Rattle.drf_rows.specs.Held.{cluster_total, held_by}
use Rattle.drf_rows.specs.Held as rows_word
use Rattle.drf_rows.specs.Holdings.{Holding, amount_in, held_where, is_under, holding_of_offer, holding_of_task}
use Rattle.drf_rows.specs.Share.{Fraction, greatest, is_less}
use Rattle.drf_row_laws.proofs.HoldingsLaws.{held_where-cons}
use Rattle.drf_bundle.proofs.ListLaws.{each_from, each_map}
use Rattle.drf_row_laws.proofs.MemberLaws.{amount_on, amount-cluster_total}
use Rattle.drf_row_laws.proofs.OthersLaws.{cycle_only_offers}
use Rattle.drf_row_laws.proofs.ReportedShares.{in_order-cluster_total}
use Rattle.drf_rows.specs.declared.rows.AgentRow.{AgentRow}
use Rattle.drf_rows.specs.declared.rows.OfferRow.{OfferRow}
use Rattle.drf_rows.specs.declared.limits.TheConstants.{LATEST_TIMESTAMP}
use Rattle.drf_rows.specs.declared.rows.Rows.{Rows}
use Rattle.drf_rows.specs.declared.rows.TaskRow.{TaskRow}
use Rattle.drf_sorter.specs.Fractions.{dominant_of}
use Rattle.drf_sorter.proofs.theorems.OrderLaws.{greatest_above}
use Rattle.drf_promises.specs.Apart.{largest_agent, share_of_bundle, AreClientsOf, TakesPart}
use Rattle.drf_promises.specs.Sharing.{offers_to, share_at, weight_at, EqualAgentsAreShared}
use Rattle.drf_promises.specs.Cycles.{IsOpen}
use Rattle.drf_promises.specs.Siblings.{child}
use Rattle.drf_promises.proofs.theorems.Apart.{some_largest}
use Rattle.drf_promises.proofs.theorems.Shared.{adds, everyone, fair_shares, gone}

-- ---- shares of multiples

-- the fraction is at most k/m
abbrev IsAtMost : ℕ → ℕ → Fraction → Type 0
IsAtMost k m f = f.part * m ≤ k * f.whole

greatest_within : (k m : ℕ) (fs : List Fraction) → AllByRecursion (IsAtMost k m) fs → IsAtMost k m (greatest fs)
greatest_within k m [] each = omega arith
greatest_within k m (f ∷ fs) each = by (is_less f (greatest fs)) each.0 (greatest_within k m fs each.1)
  where
    by : (b : Bool) → IsAtMost k m f → IsAtMost k m (greatest fs) → IsAtMost k m (if b then greatest fs else f)
    by true one others = others
    by false one others = one

-- in a sorted list each amount is that of its label
own_amounts : (es : List Entry) → IsTrue (is_in_order es) → AllByRecursion (λ e. amount_of es e.label ≡ e.amount) es
own_amounts [] ordered = tt
own_amounts (e ∷ es) ordered =
    let parts = and_parts (list_all (λ f. text_below e.label f.label) es) (is_in_order es) ordered in
    (amount_head e es, behind es parts.0 (own_amounts es parts.1))
  where
    behind : (fs : List Entry) → list_all (λ f. text_below e.label f.label) fs ≡ true → AllByRecursion (λ f. amount_of es f.label ≡ f.amount) fs
        → AllByRecursion (λ f. amount_of (e ∷ es) f.label ≡ f.amount) fs
    behind [] below own = tt
    behind (f ∷ fs) below own =
        let parts = and_parts (text_below e.label f.label) _ below in
        (ap (λ b. cond b e.amount (amount_of es f.label)) (below_other e.label f.label parts.0) ∙ own.0, behind fs parts.1 own.1)

-- k times an amount, of m times as much in all
multiple_within : (held : Text → ℕ) (a : Text → ℕ) (k m : ℕ) (all : List Entry) → ((label : Text) → held label ≡ k * a label)
    → ((label : Text) → amount_of all label ≡ m * a label) → (es : List Entry) → AllByRecursion (λ e. amount_of all e.label ≡ e.amount) es
    → IsAtMost k m (dominant_of held es)
multiple_within held a k m all holds there es own = greatest_within k m _ (each es own)
  where
    each : (fs : List Entry) → AllByRecursion (λ e. amount_of all e.label ≡ e.amount) fs
        → AllByRecursion (IsAtMost k m) (map (λ e. record { part = held e.label; whole = e.amount }) (filter (λ e. nat_lt 0 e.amount) fs))
    each [] own = tt
    each (f ∷ fs) own =
        let is : f.amount ≡ m * a f.label = sym own.0 ∙ there f.label in
        let here : held f.label * m ≤ k * f.amount = omega (arith, ap (λ n. n * m) (holds f.label), ap (λ n. k * n) is) in
        elim (cases_Bool (nat_lt 0 f.amount)) [
          | inl some ↦ rw some (here, each fs own.1)
          | inr none ↦ rw none (each fs own.1)
        ]

-- ---- equal bundles

equal_held : (test : Holding → Bool) (total : List Resource) (label : Text) (os : List OfferRow) → AllByRecursion (λ o. o.bundle ≡ total) os
    → held_where test (map holding_of_offer os) label ≡ length (filter (λ o. test (holding_of_offer o)) os) * amount_of (quantities_of total) label
equal_held test total label [] each = omega arith
equal_held test total label (o ∷ os) each =
    held_where-cons test (holding_of_offer o) (map holding_of_offer os) label ∙ by (test (holding_of_offer o)) (equal_held test total label os each.1)
  where
    left : List OfferRow
    left = filter (λ p. test (holding_of_offer p)) os

    a : ℕ
    a = amount_of (quantities_of total) label

    bundle : amount_in label (holding_of_offer o) ≡ a
    bundle = ap (λ (b : List Resource). amount_of (quantities_of b) label) each.0

    by : (b : Bool) → held_where test (map holding_of_offer os) label ≡ length left * a
        → cond b (amount_in label (holding_of_offer o)) 0 + held_where test (map holding_of_offer os) label ≡ length (if b then o ∷ left else left) * a
    by true rest = omega (arith, bundle, rest)
    by false rest = omega (arith, rest)

equal_total : (total : List Resource) (label : Text) (agents : List AgentRow) → AllByRecursion (λ a. a.total ≡ total) agents
    → sum_by (amount_on label) agents ≡ length agents * amount_of (quantities_of total) label
equal_total total label [] each = omega arith
equal_total total label (a ∷ agents) each =
    omega (arith, sum_by-cons (amount_on label) a agents, ap (λ (b : List Resource). amount_of (quantities_of b) label) each.0, equal_total total label agents each.1)

-- ---- the cycle

-- some scalar is not 0
some_scalar : (total : List Resource) → is_allocatable total ≡ true → (label : Text) × (0 < amount_of (quantities_of total) label)
some_scalar total worth =
    elim (or_cases (nat_le 10 (amount_of (quantities_of total) (codes "cpus"))) (nat_le 32000 (amount_of (quantities_of total) (codes "mem"))) worth) [
      | inl cpus ↦ (codes "cpus", omega (arith, leb-true 10 (amount_of (quantities_of total) (codes "cpus")) cpus))
      | inr mem ↦ (codes "mem", omega (arith, leb-true 32000 (amount_of (quantities_of total) (codes "mem")) mem))
    ]

whole_agents : (w all n m k : ℕ) (s most : Fraction) → 1 ≤ s.whole → 1 ≤ most.whole → IsAtMost k m s → IsAtMost 1 m most
    → w * 1 * (s.whole * most.whole) ≤ (all * s.part * most.whole + w * n * most.part * s.whole) * 1 → w * m ≤ all * k + w * n
whole_agents w all n m k s most one two first second fair =
    le_of_mul-le-mul_right {m = w * m} {n = all * k + w * n} {k = s.whole * most.whole}
    (omega (
      arith,
      mul-le-mul_right m fair,
      mul-le-mul_right (all * most.whole) first,
      mul-le-mul_right (w * n * s.whole) second,
    ))
    (one-le-mul one two)

module _ (rows : Rows) (at : ℕ) (one : Text) (others : List Text) (total : List Resource) (consistent : IsConsistent rows) (early : at ≤ LATEST_TIMESTAMP)
    (is_open : IsOpen (at_timestamp rows at)) (offers : rows.offers ≡ []) (tasks : rows.tasks ≡ []) (equal : AllByRecursion (λ a. (a.active ≡ true) × (a.total ≡ total)) rows.agents)
    (worth : is_allocatable total ≡ true) (clients : AreClientsOf rows [] (one ∷ others)) (takes : TakesPart rows (child [] one)) where
  abbrev after : Rows
  after = cycle rows at

  abbrev node : Path
  node = child [] one

  abbrev m : ℕ
  m = length rows.agents

  abbrev k : ℕ
  k = offers_to after node

  abbrev each_has : Text → ℕ
  each_has label = amount_of (quantities_of total) label

  abbrev w_at : ℕ
  w_at = weight_at after node

  abbrev rest : ℕ
  rest = sum_by (λ name. weight_at after (child [] name)) others

  full : AllByRecursion (λ a. (a.active ≡ true) × (is_allocatable a.total ≡ true)) rows.agents
  full = each_from (λ a. (a.active ≡ true) × (a.total ≡ total)) (λ a. (a.active ≡ true) × (is_allocatable a.total ≡ true)) rows.agents
      (λ a both. (both.0, ap is_allocatable both.1 ∙ worth)) equal

  totals : AllByRecursion (λ a. a.total ≡ total) rows.agents
  totals = each_from (λ a. (a.active ≡ true) × (a.total ≡ total)) (λ a. a.total ≡ total) rows.agents (λ a both. both.1) equal

  agents_stay : after.agents ≡ rows.agents
  agents_stay = (gone rows at one others consistent early is_open offers tasks full clients takes).agents

  there_before : (label : Text) → amount_of (cluster_total rows.agents) label ≡ m * each_has label
  there_before label = amount-cluster_total rows.agents label consistent.agents.each ∙ equal_total total label rows.agents totals

  there : (label : Text) → amount_of (cluster_total after.agents) label ≡ m * each_has label
  there label = ap (λ (as' : List AgentRow). amount_of (cluster_total as') label) agents_stay ∙ there_before label

  bundles : AllByRecursion (λ o. o.bundle ≡ total) after.offers
  bundles =
      (adds rows at one others consistent early is_open offers tasks full clients takes []).2 (λ b. b ≡ total)
      (subst (AllByRecursion (λ a. a.total ≡ total)) (sym (everyone rows at one others consistent early is_open offers tasks full clients takes)) totals)
      (subst (AllByRecursion (λ o. o.bundle ≡ total)) (sym offers) tt)

  held : (label : Text) → held_by after node label ≡ k * each_has label
  held label =
      let none : after.tasks ≡ [] = ap (λ (r : Rows). r.tasks) (cycle_only_offers rows at).nothing_else ∙ tasks in
      ap (λ (ts : List TaskRow). held_where (is_under node) (map holding_of_offer after.offers ++ map holding_of_task ts) label) none
      ∙ ap (λ (hs : List Holding). held_where (is_under node) hs label) (append-nil (map holding_of_offer after.offers))
      ∙ equal_held (is_under node) total label after.offers bundles

  own : AllByRecursion (λ e. amount_of (cluster_total after.agents) e.label ≡ e.amount) (cluster_total after.agents)
  own = own_amounts (cluster_total after.agents) (in_order-cluster_total after.agents)

  its_share : IsAtMost k m (share_at after node)
  unfolding rows_word.standing_of
  its_share =
      multiple_within (held_by after node) each_has k m (cluster_total after.agents) held there (cluster_total after.agents) own

  one_agent : IsAtMost 1 m (largest_agent after)
  one_agent =
      greatest_within 1 m _ (each_map (IsAtMost 1 m) (λ a. share_of_bundle after a.total) after.agents
      (each_from (λ a. a.total ≡ total) (λ a. IsAtMost 1 m (share_of_bundle after a.total)) after.agents
      (λ a same. multiple_within (amount_of (quantities_of a.total)) each_has 1 m (cluster_total after.agents)
      (λ label. omega (arith, ap (λ (b : List Resource). amount_of (quantities_of b) label) same)) there (cluster_total after.agents) own)
      (subst (AllByRecursion (λ a. a.total ≡ total)) (sym agents_stay) totals)))

  shared_if : 1 ≤ m → w_at * m ≤ (w_at + rest) * k + w_at * length others
  unfolding rows_word.standing_of
  shared_if some =
      let scalar = some_scalar total worth in
      let there_is : 0 < amount_of (cluster_total rows.agents) scalar.0 = omega (arith, there_before scalar.0, one-le-mul some scalar.1) in
      whole_agents w_at (w_at + rest) (length others) m k (share_at after node) (largest_agent after)
      (greatest_above (held_by after node) (cluster_total after.agents)) (some_largest after) its_share one_agent
      (fair_shares rows at one others scalar.0 consistent early is_open offers tasks full there_is clients takes)

pub equal_agents_are_shared : EqualAgentsAreShared
equal_agents_are_shared rows at one others total consistent early is_open offers tasks equal worth clients takes =
    by rows.agents refl (shared_if rows at one others total consistent early is_open offers tasks equal worth clients takes)
  where
    w : ℕ
    w = weight_at (cycle rows at) (child [] one)

    bound : ℕ
    bound = (w + sum_by (λ name. weight_at (cycle rows at) (child [] name)) others) * offers_to (cycle rows at) (child [] one) + w * length others

    by : (agents : List AgentRow) → rows.agents ≡ agents → (1 ≤ length rows.agents → w * length rows.agents ≤ bound) → w * length rows.agents ≤ bound
    by [] none shared = omega (arith, ap (λ (as' : List AgentRow). w * length as') none)
    by (a ∷ agents) some shared = shared (omega (arith, ap length some))
