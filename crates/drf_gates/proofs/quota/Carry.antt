-- The totals of a role's prefixes are changed one after another, when the role's consumption changes.
use Rattle.std.proofs.Common.{◌≡◌, ℕ, ◌+◌, ◌<◌, ◌≤◌, Bool, true, false, ◌&&◌, cond, nat_lt, List, [], ◌∷◌, length, take, None, Some, refl, sym, ap, subst, ◌∙◌, inl, inr, arith, length-take-le, true≢false}
use Rattle.std.specs.Prelude.{IsTrue, All}
use Rattle.std.specs.List.{AllByRecursion, IsDistinct}
use Rattle.std.specs.Map.{keys_of, lookup, remove_entry, set_value}
use Rattle.std.proofs.lemmas.Bool.{cases_Bool}
use Rattle.std.proofs.lemmas.Bool.Decides.{nat_tests}
use Rattle.std.proofs.lemmas.List.Elements.{All-cons, All-head, All-nil, All-tail, All-weaker}
use Rattle.std.proofs.lemmas.List.Sorted.{All-permutation}
use Rattle.std.proofs.lemmas.Map.{length-set_value}
use Rattle.std.proofs.lemmas.Map.Keys.{IsDistinct-head, IsDistinct-tail}
use Rattle.indexmap.specs.IndexMap.{insert_entry, swap_remove_entry}
use Rattle.drf_role.specs.Text.{Text}
use Rattle.drf_role.specs.Path.{Path, same_path}
use Rattle.drf_role.specs.PathLaws.{same_path-true}
use Rattle.drf_bundle.specs.Quantities.{amount_of}
use Rattle.drf_bundle.specs.declared.quantities.Entry.{Entry}
use Rattle.drf_rows.specs.Quota.{is_within}
use Rattle.drf_gates.specs.quota.Allowance.{Usage, AreRaised, counted, used_at}
use Rattle.drf_gates.specs.quota.Totals.{AreCarried, AreExact, IsExact, is_prefix_before}
use Rattle.drf_gates.specs.declared.quota.totals.Total.{Total}
use Rattle.drf_gates.proofs.quota.Leave.{prefix_few, prefix_there, prefix_within}
use Rattle.drf_gates.proofs.quota.Gone.{no_role}
use Rattle.drf_gates.proofs.quota.Swapped.{swapped}

-- ---- which roles are prefixes

-- the prefix with `n` parts
here_before : (role outer : Path) (n : ℕ) → n ≤ length role → same_path (take n role) outer ≡ true → is_prefix_before role n outer ≡ false
here_before role outer n few here =
    let size : length outer ≡ n = sym (ap (λ (p : Path). length p) (same_path-true (take n role) outer here)) ∙ length-take-le n role few in
    let past : nat_lt (length outer) n ≡ false = grind (arith, nat_tests) in
    ap (λ (b : Bool). b && is_within outer role) past

here_after : (role outer : Path) (n : ℕ) → n ≤ length role → same_path (take n role) outer ≡ true → is_prefix_before role (n + 1) outer ≡ true
here_after role outer n few here =
    let size : length outer ≡ n = sym (ap (λ (p : Path). length p) (same_path-true (take n role) outer here)) ∙ length-take-le n role few in
    let below : nat_lt (length outer) (n + 1) ≡ true = grind (arith, nat_tests) in
    λ i. below i && prefix_within outer role n few here i

-- whether another role is one of the prefixes does not change when `n` grows by one
and_none : (b : Bool) → (b && false) ≡ false
and_none true = refl
and_none false = refl

prefix_past : (role outer : Path) (n : ℕ) → same_path (take n role) outer ≡ false → is_prefix_before role n outer ≡ is_prefix_before role (n + 1) outer
prefix_past role outer n other = elim (cases_Bool (is_within outer role)) [
  | inl within ↦
      let apart : length outer ≡ n → ⊥ =
      (λ e. true≢false (sym (subst (λ (m : ℕ). same_path (take m role) outer ≡ true) e (prefix_there outer role within)) ∙ other)) in
      let same : nat_lt (length outer) n ≡ nat_lt (length outer) (n + 1) = grind (arith, nat_tests) in
      ap (λ (b : Bool). b && is_within outer role) same
  | inr past ↦
      ap (λ (b : Bool). nat_lt (length outer) n && b) past ∙ and_none (nat_lt (length outer) n)
      ∙ sym (ap (λ (b : Bool). nat_lt (length outer) (n + 1) && b) past ∙ and_none (nat_lt (length outer) (n + 1)))
]

abbrev Exact : List Usage → Path × Total → Type 0
Exact used e = IsExact used e.0 e.1

module _ (old new : List Usage) (role : Path) where
  abbrev At : ℕ → Path × Total → Type 0
  At n e = IsExact (cond (is_prefix_before role n e.0) new old) e.0 e.1

  one_past : (n : ℕ) (e : Path × Total) → same_path (take n role) e.0 ≡ false → At n e → At (n + 1) e
  one_past n e other = subst (λ (b : Bool). IsExact (cond b new old) e.0 e.1) (prefix_past role e.0 n other)

  -- there is no total of the prefix
  carried_past : (n : ℕ) (totals : List (Path × Total)) → AllByRecursion (λ y. same_path (take n role) y ≡ false) (keys_of totals)
      → All (At n) totals → All (At (n + 1)) totals
  carried_past n [] none all = All-nil (At (n + 1))
  carried_past n (e ∷ es) none all =
      All-cons (At (n + 1)) e es (one_past n e none.0 (All-head (At n) e es all)) (carried_past n es none.1 (All-tail (At n) e es all))

  carried_none : (n : ℕ) (totals : List (Path × Total)) → lookup (same_path (take n role)) totals ≡ None
      → All (At n) totals → All (At (n + 1)) totals
  carried_none n [] none all = All-nil (At (n + 1))
  carried_none n (e ∷ es) none all = elim (cases_Bool (same_path (take n role) e.0)) [
    | inl here ↦ absurd (let bad = rw here at none in cc)
    | inr other ↦
        All-cons (At (n + 1)) e es (one_past n e other (All-head (At n) e es all)) (carried_none n es (rw other at none) (All-tail (At n) e es all))
  ]

  -- there is a total of the prefix, and it is changed
  carried_found : (n : ℕ) → n ≤ length role → (totals : List (Path × Total)) → IsDistinct same_path (keys_of totals) → (t u : Total)
      → lookup (same_path (take n role)) totals ≡ Some t
      → ((outer : Path) → is_within outer role ≡ true → IsExact old outer t → IsExact new outer u)
      → All (At n) totals → All (At (n + 1)) (set_value (same_path (take n role)) totals u)
  carried_found n few [] apart t u found step all = cc
  carried_found n few (e ∷ es) apart t u found step all = elim (cases_Bool (same_path (take n role) e.0)) [
    | inl here ↦
        let its : e.1 ≡ t = let it = rw here at found in cc in
        let was : IsExact old e.0 t =
        subst (λ (x : Total). IsExact old e.0 x) its
        (subst (λ (b : Bool). IsExact (cond b new old) e.0 e.1) (here_before role e.0 n few here) (All-head (At n) e es all)) in
        let is : At (n + 1) (e.0, u) =
        subst (λ (b : Bool). IsExact (cond b new old) e.0 u) (sym (here_after role e.0 n few here)) (step e.0 (prefix_within e.0 role n few here) was) in
        let others = subst (λ (p : Path). AllByRecursion (λ y. same_path p y ≡ false) (keys_of es)) (sym (same_path-true (take n role) e.0 here))
        (IsDistinct-head same_path e.0 (keys_of es) apart) in
        rw here (All-cons (At (n + 1)) (e.0, u) es is (carried_past n es others (All-tail (At n) e es all)))
    | inr other ↦
        rw other (All-cons (At (n + 1)) e (set_value (same_path (take n role)) es u) (one_past n e other (All-head (At n) e es all))
        (carried_found n few es (IsDistinct-tail same_path e.0 (keys_of es) apart) t u (rw other at found) step (All-tail (At n) e es all)))
  ]

  -- ---- the same, by the text of the prefix

  pub carried_unkept : (n : ℕ) (p : Path) → p ≡ take n role → (totals : List (Path × Total)) → lookup (same_path p) totals ≡ None
      → AreCarried old new role n totals → AreCarried old new role (n + 1) totals
  carried_unkept n p is totals none kept = record {
    few = kept.few;
    exact = carried_none n totals (ap (λ (q : Path). lookup (same_path q) totals) (sym is) ∙ none) kept.exact;
  }

  pub carried_written : (n : ℕ) → n ≤ length role → (p : Path) → p ≡ take n role → (totals : List (Path × Total)) → IsDistinct same_path (keys_of totals)
      → (t u : Total) → lookup (same_path p) totals ≡ Some t
      → ((outer : Path) → is_within outer role ≡ true → IsExact old outer t → IsExact new outer u)
      → AreCarried old new role n totals → AreCarried old new role (n + 1) (set_value (same_path p) totals u)
  carried_written n few p is totals apart t u found step kept = record {
    few = omega (arith, length-set_value (same_path p) totals u, kept.few);
    exact = subst (λ (q : Path). All (At (n + 1)) (set_value (same_path q) totals u)) (sym is)
        (carried_found n few totals apart t u (ap (λ (q : Path). lookup (same_path q) totals) (sym is) ∙ found) step kept.exact);
  }

  -- ---- all prefixes

  -- nothing is claimed about the empty path, which is not a role
  start_one : (outer : Path) (t : Total) → IsExact old outer t → At 1 (outer, t)
  start_one [] t its = record { known = λ is right label. absurd (no_role right) }
  start_one (part ∷ parts) t its =
      let none : nat_lt (length (part ∷ parts)) 1 ≡ false = grind (arith, nat_tests) in
      subst (λ (b : Bool). IsExact (cond b new old) (part ∷ parts) t) (sym (ap (λ (b : Bool). b && is_within (part ∷ parts) role) none)) its

  pub carried_start : (totals : List (Path × Total)) → AreExact old totals → AreCarried old new role 1 totals
  carried_start totals kept = record {
    few = kept.few;
    exact = All-weaker (Exact old) (At 1) (λ e its. start_one e.0 e.1 its) totals kept.exact;
  }

  pub carried_end : (n : ℕ) → length role < n → (totals : List (Path × Total))
      → ((outer : Path) → is_within outer role ≡ false → (label : Text) → used_at new outer label ≡ used_at old outer label)
      → AreCarried old new role n totals → AreExact new totals
  carried_end n all totals same kept = record {
    few = kept.few;
    exact = All-weaker (At n) (Exact new) (λ e its. elim (cases_Bool (is_within e.0 role)) [
      | inl within ↦
          let few = prefix_few e.0 role within in
          let below : nat_lt (length e.0) n ≡ true = grind (arith, nat_tests) in
          let is : is_prefix_before role n e.0 ≡ true = (λ i. below i && within i) in
          subst (λ (b : Bool). IsExact (cond b new old) e.0 e.1) is its
      | inr past ↦
          let is : is_prefix_before role n e.0 ≡ false = ap (λ (b : Bool). nat_lt (length e.0) n && b) past ∙ and_none (nat_lt (length e.0) n) in
          let was = subst (λ (b : Bool). IsExact (cond b new old) e.0 e.1) is its in
          record { known = λ known right label. was.known known right label ∙ sym (same e.0 past label) }
    ]) totals kept.exact;
  }

-- ---- a role consumes more or less

module _ (old new : List Usage) (role : Path) (amounts : List Entry) (raised : AreRaised old new role amounts) where
  pub raised_same : (outer : Path) → is_within outer role ≡ false → (label : Text) → used_at new outer label ≡ used_at old outer label
  raised_same outer past label =
      let none : counted (is_within outer) role amounts label ≡ 0 = ap (λ (b : Bool). cond b (amount_of amounts label) 0) past in
      omega (arith, raised (is_within outer) label, none)

  whole_counted : (outer : Path) → is_within outer role ≡ true → (label : Text) → counted (is_within outer) role amounts label ≡ amount_of amounts label
  whole_counted outer within label = ap (λ (b : Bool). cond b (amount_of amounts label) 0) within

  pub raised_exact : (t u : Total) → (IsTrue u.is_known → IsTrue t.is_known)
      → (IsTrue u.is_known → (label : Text) → amount_of u.amounts label ≡ amount_of t.amounts label + amount_of amounts label)
      → (outer : Path) → is_within outer role ≡ true → IsExact old outer t → IsExact new outer u
  raised_exact t u known sums outer within its = record {
    known = λ is right label. omega (arith, sums is label, its.known (known is) right label, raised (is_within outer) label, whole_counted outer within label);
  }

  pub lowered_exact : (t u : Total) → (IsTrue u.is_known → IsTrue t.is_known)
      → (IsTrue u.is_known → (label : Text) → amount_of u.amounts label + amount_of amounts label ≡ amount_of t.amounts label)
      → (outer : Path) → is_within outer role ≡ true → IsExact new outer t → IsExact old outer u
  lowered_exact t u known sums outer within its = record {
    known = λ is right label. omega (arith, sums is label, its.known (known is) right label, raised (is_within outer) label, whole_counted outer within label);
  }

-- ---- totals are added and removed

module _ (used : List Usage) where
  pub exact_put : (role : Path) (t : Total) (totals : List (Path × Total)) → IsExact used role t → All (Exact used) totals
      → All (Exact used) (insert_entry same_path totals role t)
  exact_put role t [] its all = All-cons (Exact used) (role, t) [] its (All-nil (Exact used))
  exact_put role t (e ∷ es) its all = elim (cases_Bool (same_path role e.0)) [
    | inl here ↦
        rw here (All-cons (Exact used) (e.0, t) es (subst (λ (r : Path). IsExact used r t) (same_path-true role e.0 here) its) (All-tail (Exact used) e es all))
    | inr other ↦
        rw other (All-cons (Exact used) e (insert_entry same_path es role t) (All-head (Exact used) e es all)
        (exact_put role t es its (All-tail (Exact used) e es all)))
  ]

  exact_without : (test : Path → Bool) (totals : List (Path × Total)) → All (Exact used) totals → All (Exact used) (remove_entry test totals)
  exact_without test [] all = all
  exact_without test (e ∷ es) all = elim (cases_Bool (test e.0)) [
    | inl here ↦ rw here (All-tail (Exact used) e es all)
    | inr other ↦
        rw other (All-cons (Exact used) e (remove_entry test es) (All-head (Exact used) e es all)
        (exact_without test es (All-tail (Exact used) e es all)))
  ]

  -- removing a total leaves no more totals; the last can move to the place of the removed one
  pub exact_dropped : (test : Path → Bool) (totals new : List (Path × Total)) → new ≡ swap_remove_entry test totals → length new ≤ length totals
      → AreExact used totals → AreExact used new
  exact_dropped test totals new is fewer kept = record {
    few = omega (arith, fewer, kept.few);
    exact = subst (All (Exact used)) (sym is)
        (All-permutation (Exact used) _ _ (swapped test totals) (exact_without test totals kept.exact));
  }
