-- Bounds on the numbers of filters, limits, weights and scalar names after an event, and of roles of each framework.
use Rattle.std.proofs.Common.{◌≡◌, ℕ, ◌+◌, ◌≤◌, Bool, true, false, not, ◌&&◌, List, [], ◌∷◌, ◌++◌, Some, length, map, refl, ap, inl, inr, cond, arith, nat_lt, nat_le, ◌⊎◌}
use Rattle.std.specs.Prelude.{filter}
use Rattle.std.specs.List.{list_any, AllByRecursion}
use Rattle.std.proofs.lemmas.Bool.{cases_Bool, ltb-true, ltb-false, leb-false, lt-ltb}
use Rattle.std.proofs.lemmas.List.{length-map}
use Rattle.std.proofs.lemmas.List.Sums.{sum_by-cons, sum_by-append}
use Rattle.drf_role.specs.Text.{Text, same_text}
use Rattle.drf_role.specs.Path.{Path, same_path}
use Rattle.drf_bundle.specs.Bundle.{quantities_of}
use Rattle.drf_bundle.specs.Quantities.{plus}
use Rattle.drf_bundle.specs.declared.quantities.Entry.{Entry}
use Rattle.drf_bundle.proofs.theorems.QuantitiesLaws.{amount-plus, length-plus, no_zeros-plus, same_quantities}
use Rattle.drf_bundle.proofs.theorems.UnitProofs.{quantities_no_zeros}
use Rattle.drf_rows.specs.Client.{Client}
use Rattle.drf_rows.specs.Consistent.{IsAgent, IsConsistent}
use Rattle.drf_rows.specs.Filters.{number_in_force}
use Rattle.drf_rows.specs.Held.{cluster_total}
use Rattle.drf_rows.specs.Members.{suppressed_at, suppressed_in}
use Rattle.drf_rows.specs.Offers.{is_empty}
use Rattle.drf_rows.specs.Quota.{limits_put, limits_with, limits_without}
use Rattle.drf_rows.specs.Totals.{agent_at}
use Rattle.drf_row_laws.specs.LifeLaws.{with_counts, raised_row}
use Rattle.drf_bundle.proofs.ListLaws.{each_from, each_map, each_filter, sum_by-filter-cons, cond_le}
use Rattle.drf_row_laws.proofs.MemberLaws.{amount-without_named}
use Rattle.drf_row_laws.proofs.TotalsLaws.{is_agent, no_zeros-total}
use Rattle.drf_rows.specs.declared.rows.AgentRow.{AgentRow}
use Rattle.drf_rows.specs.declared.rows.FilterRow.{FilterRow}
use Rattle.drf_rows.specs.declared.rows.FrameworkRow.{FrameworkRow}
use Rattle.drf_rows.specs.declared.rows.LimitRow.{LimitRow}
use Rattle.drf_rows.specs.declared.rows.Rows.{Rows}
use Rattle.drf_rows.specs.declared.rows.OfferRow.{OfferRow}
use Rattle.drf_rows.specs.LimitNumbers.{LimitNumbers}
use Rattle.drf_rows.specs.Weights.{has_weight, too_many_weights, weights_with}
use Rattle.drf_rows.specs.declared.rows.WeightRow.{WeightRow}

-- ---- filters in force

abbrev one_if_in_force : ℕ → FilterRow → ℕ
one_if_in_force now f = cond (nat_lt now f.until) 1 0

-- a sublist of the filters has at most as many in force
pub fewer_in_force : (now : ℕ) (p : FilterRow → Bool) (fs : List FilterRow) → number_in_force now (filter p fs) ≤ number_in_force now fs
fewer_in_force now p [] = omega arith
fewer_in_force now p (f ∷ fs) =
    omega (
      arith,
      sum_by-filter-cons (one_if_in_force now) p f fs,
      cond_le (p f) (one_if_in_force now f),
      sum_by-cons (one_if_in_force now) f fs,
      fewer_in_force now p fs,
    )

-- later at most as many filters are in force
pub in_force_later : (now later : ℕ) (fs : List FilterRow) → now ≤ later → number_in_force later fs ≤ number_in_force now fs
in_force_later now later [] le = omega arith
in_force_later now later (f ∷ fs) le =
    omega (
      arith,
      sum_by-cons (one_if_in_force later) f fs,
      sum_by-cons (one_if_in_force now) f fs,
      one (cases_Bool (nat_lt later f.until)),
      in_force_later now later fs le,
    )
  where
    one : (nat_lt later f.until ≡ true) ⊎ (nat_lt later f.until ≡ false) → one_if_in_force later f ≤ one_if_in_force now f
    one (inl here) =
        let before = lt-ltb now f.until (omega (arith, le, ltb-true later f.until here)) in
        rw (here, before) (omega arith)
    one (inr past) = rw past (omega arith)

-- one more filter fits if fewer than the capacity are in force
pub one_more_in_force : (most now : ℕ) (fs : List FilterRow) (f : FilterRow) → nat_le most (number_in_force now fs) ≡ false
    → number_in_force now (fs ++ f ∷ []) ≤ most
one_more_in_force most now fs f few =
    omega (
      arith,
      leb-false most (number_in_force now fs) few,
      sum_by-append (one_if_in_force now) fs (f ∷ []),
      sum_by-cons (one_if_in_force now) f [],
      one (nat_lt now f.until),
    )
  where
    one : (b : Bool) → cond b 1 0 ≤ 1
    one true = omega arith
    one false = omega arith

-- ---- limits of roles

abbrev HasFewNames : ℕ → LimitRow → Type 0
HasFewNames most l = length l.limit ≤ most

module _ (role : Path) where
  length-without : (ls : List LimitRow) → length (limits_without ls role) ≤ length ls
  length-without [] = omega arith
  length-without (l ∷ ls) = elim (cases_Bool (same_path l.role role)) [
    | inl here ↦ rw here (omega arith)
    | inr past ↦ rw past (omega (arith, length-without ls))
  ]

  length-put_new : (limit : List Entry) (ls : List LimitRow) → length (limits_put ls role limit) ≤ length ls + 1
  length-put_new limit [] = omega arith
  length-put_new limit (l ∷ ls) = elim (cases_Bool (same_path l.role role)) [
    | inl here ↦ rw here (omega arith)
    | inr past ↦ rw past (omega (arith, length-put_new limit ls))
  ]

  length-put : (limit : List Entry) (ls : List LimitRow) → list_any (λ l. same_path l.role role) ls ≡ true
      → length (limits_put ls role limit) ≡ length ls
  length-put limit [] there = cc
  length-put limit (l ∷ ls) there = elim (cases_Bool (same_path l.role role)) [
    | inl here ↦ rw here refl
    | inr past ↦ let later = rw past at there in rw past (omega (arith, length-put limit ls later))
  ]

  names-without : (most : ℕ) (ls : List LimitRow) → AllByRecursion (HasFewNames most) ls → AllByRecursion (HasFewNames most) (limits_without ls role)
  names-without most [] all = tt
  names-without most (l ∷ ls) all = elim (cases_Bool (same_path l.role role)) [
    | inl here ↦ rw here all.1
    | inr past ↦ rw past (all.0, names-without most ls all.1)
  ]

  names-put : (most : ℕ) (limit : List Entry) (ls : List LimitRow) → length limit ≤ most → AllByRecursion (HasFewNames most) ls
      → AllByRecursion (HasFewNames most) (limits_put ls role limit)
  names-put most limit [] few all = (few, tt)
  names-put most limit (l ∷ ls) few all = elim (cases_Bool (same_path l.role role)) [
    | inl here ↦ rw here (few, all.1)
    | inr past ↦ rw past (all.0, names-put most limit ls few all.1)
  ]

  pub names-with : (most : ℕ) (limit : List Entry) (ls : List LimitRow) → length limit ≤ most → AllByRecursion (HasFewNames most) ls
      → AllByRecursion (HasFewNames most) (limits_with ls role limit)
  names-with most [] ls few all = names-without most ls all
  names-with most (e ∷ es) ls few all = names-put most (e ∷ es) ls few all

  pub length-with : (most : ℕ) (limit : List Entry) (ls : List LimitRow) → length ls ≤ most
      → (not (is_empty limit) && (not (list_any (λ l. same_path l.role role) ls) && nat_lt most (length ls + 1))) ≡ false
      → length (limits_with ls role limit) ≤ most
  length-with most [] ls few room = omega (arith, few, length-without ls)
  length-with most (e ∷ es) ls few room = elim (cases_Bool (list_any (λ (l : LimitRow). same_path l.role role) ls)) [
    | inl there ↦ omega (arith, few, length-put (e ∷ es) ls there)
    | inr new ↦
        let fits : nat_lt most (length ls + 1) ≡ false = rw new at room in
        omega (arith, ltb-false most (length ls + 1) fits, length-put_new (e ∷ es) ls)
  ]

-- ---- weights of roles

abbrev is_row : Path → WeightRow → Bool
is_row role w = same_path w.role role

length-replaced : (ws : List WeightRow) (role : Path) (weight : ℕ) → list_any (is_row role) ws ≡ true
    → length (weights_with ws role weight) ≡ length ws
length-replaced [] role weight there = cc
length-replaced (w ∷ ws) role weight there = elim (cases_Bool (is_row role w)) [
  | inl here ↦ rw here refl
  | inr past ↦ let later = rw past at there in rw past (omega (arith, length-replaced ws role weight later))
]

length-one_more : (ws : List WeightRow) (role : Path) (weight : ℕ) → length (weights_with ws role weight) ≤ length ws + 1
length-one_more [] role weight = omega arith
length-one_more (w ∷ ws) role weight = elim (cases_Bool (is_row role w)) [
  | inl here ↦ rw here (omega arith)
  | inr past ↦ rw past (omega (arith, length-one_more ws role weight))
]

pub few_weights : (limits : LimitNumbers) (rows : Rows) (role : Path) (weight : ℕ)
    → length rows.weights ≤ limits.weights → too_many_weights limits rows role ≡ false
    → length (weights_with rows.weights role weight) ≤ limits.weights
few_weights limits rows role weight few room = elim (cases_Bool (has_weight rows role)) [
  | inl there ↦ omega (arith, few, length-replaced rows.weights role weight there)
  | inr new ↦
      let fits : nat_lt limits.weights (length rows.weights + 1) ≡ false = rw new at room in
      omega (arith, ltb-false limits.weights (length rows.weights + 1) fits, length-one_more rows.weights role weight)
]

-- ---- the roles of a framework

abbrev HasFewRoles : ℕ → FrameworkRow → Type 0
HasFewRoles most f = length f.clients ≤ most

pub roles-suppressed : (most : ℕ) (client : Client) (suppressed : Bool) (fs : List FrameworkRow) → AllByRecursion (HasFewRoles most) fs
    → AllByRecursion (HasFewRoles most) (map (suppressed_in client suppressed) fs)
roles-suppressed most client suppressed fs all =
    each_map (HasFewRoles most) (suppressed_in client suppressed) fs
    (each_from (HasFewRoles most) (λ f. HasFewRoles most (suppressed_in client suppressed f)) fs one all)
  where
    one : (f : FrameworkRow) → HasFewRoles most f → HasFewRoles most (suppressed_in client suppressed f)
    one f few = elim (cases_Bool (same_text f.name client.framework)) [
      | inl here ↦ rw here (omega (arith, few, length-map f.clients (suppressed_at client suppressed)))
      | inr past ↦ rw past few
    ]

pub roles-counted : (most : ℕ) (made : List OfferRow) (fs : List FrameworkRow) → AllByRecursion (HasFewRoles most) fs
    → AllByRecursion (HasFewRoles most) (map (with_counts made) fs)
roles-counted most made fs all =
    each_map (HasFewRoles most) (with_counts made) fs
    (each_from (HasFewRoles most) (λ f. HasFewRoles most (with_counts made f)) fs
    (λ f few. omega (arith, few, length-map f.clients (raised_row made f.name))) all)

-- ---- names of scalars

-- removing an agent adds no name of a scalar
pub names-without_agent : (rows : Rows) (name : Text) (a : AgentRow) → IsConsistent rows → agent_at rows name ≡ Some a
    → length (cluster_total (filter (λ b. not (same_text b.name name)) rows.agents)) ≤ length (cluster_total rows.agents)
names-without_agent rows name a consistent found =
    let stays : AgentRow → Bool = λ b. not (same_text b.name name) in
    let others : List Entry = cluster_total (filter stays rows.agents) in
    let right = is_agent rows name a consistent found in
    let left = no_zeros-total (filter stays rows.agents) (each_filter IsAgent stays rows.agents consistent.agents.each) in
    let its = quantities_no_zeros a.total right.total in
    let same : plus others (quantities_of a.total) ≡ cluster_total rows.agents =
    same_quantities (plus others (quantities_of a.total)) (cluster_total rows.agents)
    (no_zeros-plus others (quantities_of a.total) left its) (no_zeros-total rows.agents consistent.agents.each)
    (λ label. omega (
      arith,
      amount-plus others (quantities_of a.total) label its.in_order,
      amount-without_named rows.agents name a label consistent.agents found,
    )) in
    omega (arith, length-plus others (quantities_of a.total) left.in_order its.in_order, ap length same)
