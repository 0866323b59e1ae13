-- The stored totals of the roles that have a limit stay exact after each change of what roles consume.
use Rattle.std.specs.Prelude.{◌≡◌, ℕ, ◌+◌, ◌<◌, Bool, true, false, List, [], ◌∷◌, IsTrue, All, length, drop, Some}
use Rattle.std.specs.Map.{lookup}
use Rattle.std.proofs.Common.{refl, sym, ap, subst, ◌∙◌, inl, inr, cond, arith, get_or, set}
use Rattle.std.proofs.lemmas.Bool.{and_parts, cases_Bool}
use Rattle.std.proofs.lemmas.List.Elements.{All-head, All-tail, All-weaker}
use Rattle.drf_role.specs.Text.{Text, same_text}
use Rattle.drf_role.specs.TextLaws.{same_from_test}
use Rattle.drf_role.proofs.TextLaws.{cases_same}
use Rattle.drf_role.specs.Path.{Path, same_path}
use Rattle.drf_role.specs.PathLaws.{same_path-true}
use Rattle.drf_role.specs.Role.{IsRole}
use Rattle.drf_bundle.specs.Quantities.{amount_of, is_in_order, with_amount}
use Rattle.drf_bundle.proofs.theorems.QuantitiesLaws.{stands_first, amount_first, amount-with}
use Rattle.drf_bundle.specs.declared.quantities.Entry.{Entry}
use Rattle.drf_rows.specs.Quota.{is_within}
use Rattle.drf_gates.specs.quota.Allowance.{Usage, AreRaised, AreSome, IsBounded, one_entry, used_at, used_where}
use Rattle.drf_gates.specs.quota.Totals.{IsExact, AreExact, IsCounted}
use Rattle.drf_gates.specs.declared.quota.totals.Total.{Total}
use Rattle.drf_gates.proofs.quota.Resources.{next_of}
use Rattle.drf_gates.proofs.quota.Used.{bounded-lowered}

-- ---- adding or subtracting amounts, entry by entry

-- the larger amounts are the smaller ones plus `whole`, except for the entries that are left
pub record IsMoving (small large whole left : List Entry) : Type 0 where
  pub in_order : IsTrue (is_in_order left)
  pub sums : (label : Text) → amount_of large label + amount_of left label ≡ amount_of small label + amount_of whole label

-- the first entry and the others
pub first_amount : (e : Entry) (es : List Entry) → IsTrue (is_in_order (e ∷ es))
    → (label : Text) → amount_of (e ∷ es) label ≡ amount_of (one_entry e.label e.amount) label + amount_of es label
first_amount e es ordered label =
    let parts = and_parts (stands_first e.label es) (is_in_order es) ordered in
    elim (cases_same e.label label) [
      | inl same ↦
          let none : amount_of es label ≡ 0 = subst (λ (t : Text). amount_of es t ≡ 0) same.1 (amount_first e.label es parts.0) in
          rw same.0 (omega (arith, none))
      | inr other ↦ rw other.0 (omega arith)
    ]

module _ (small large whole es : List Entry) (i : ℕ) (e : Entry) (in_range : i < length es) (read : e ≡ get_or es i e)
    (moving : IsMoving small large whole (drop i es)) where
  split_left : IsMoving small large whole (e ∷ drop (i + 1) es)
  split_left = subst (λ (left : List Entry). IsMoving small large whole left) (next_of es i e in_range read) moving

  rest_ordered : IsTrue (is_in_order (drop (i + 1) es))
  rest_ordered = (and_parts (stands_first e.label (drop (i + 1) es)) (is_in_order (drop (i + 1) es)) split_left.in_order).1

  -- one more entry is added
  pub added_more : (new : List Entry)
      → ((label : Text) → amount_of new label ≡ amount_of large label + amount_of (one_entry e.label e.amount) label)
      → IsMoving small new whole (drop (i + 1) es)
  added_more new added = record {
    in_order = rest_ordered;
    sums = λ label. omega (arith, added label, split_left.sums label, first_amount e (drop (i + 1) es) split_left.in_order label);
  }

  -- one more entry is subtracted
  pub taken_more : (new : List Entry) (name : Text) (amount : ℕ) → name ≡ e.label → amount ≡ e.amount
      → ((label : Text) → amount_of new label + amount_of (one_entry name amount) label ≡ amount_of small label)
      → IsMoving new large whole (drop (i + 1) es)
  taken_more new name amount same its taken = record {
    in_order = rest_ordered;
    sums = λ label.
        let renamed : amount_of (one_entry name amount) label ≡ amount_of (one_entry e.label e.amount) label =
        λ k. amount_of (one_entry (same k) (its k)) label in
        omega (arith, taken label, split_left.sums label, first_amount e (drop (i + 1) es) split_left.in_order label);
  }

-- the amount of an entry's label grows by the entry's amount
pub entry_added : (sum new : List Entry) (e : Entry) (amount : ℕ) → amount ≡ e.amount
    → new ≡ with_amount sum e.label (amount_of sum e.label + amount)
    → (label : Text) → amount_of new label ≡ amount_of sum label + amount_of (one_entry e.label e.amount) label
entry_added sum new e amount more set label =
    ap (λ (es : List Entry). amount_of es label) set
    ∙ ap (λ (n : ℕ). amount_of (with_amount sum e.label (amount_of sum e.label + n)) label) more
    ∙ amount-with sum e.label (amount_of sum e.label + e.amount) label
    ∙ by (same_text e.label label) refl
  where
    by : (b : Bool) → same_text e.label label ≡ b
        → cond b (amount_of sum e.label + e.amount) (amount_of sum label) ≡ amount_of sum label + cond b e.amount 0
    by true here = ap (λ (n : Text). amount_of sum n + e.amount) (same_from_test e.label label here)
    by false past = omega arith

-- ---- totals for different tables of consumption

-- the totals are exact for another table in which each role consumes the same
pub exact_alike : (one other : List Usage) (totals : List (Path × Total))
    → ((test : Path → Bool) (label : Text) → used_where test other label ≡ used_where test one label)
    → AreExact one totals → AreExact other totals
exact_alike one other totals alike kept = record {
  few = kept.few;
  exact = All-weaker (λ (e : Path × Total). IsExact one e.0 e.1) (λ (e : Path × Total). IsExact other e.0 e.1)
      (λ e its. record { known = λ is right label. its.known is right label ∙ sym (alike (is_within e.0) label) }) totals kept.exact;
}

-- a known total is what its role consumes
pub kept_is : (used : List Usage) (totals : List (Path × Total)) (role : Path) (t : Total) (label : Text)
    → IsRole role → lookup (same_path role) totals ≡ Some t → IsTrue t.is_known → All (λ e. IsExact used e.0 e.1) totals
    → amount_of t.amounts label ≡ used_at used role label
kept_is used [] role t label right found known exact = cc
kept_is used (e ∷ es) role t label right found known exact = elim (cases_Bool (same_path role e.0)) [
  | inl here ↦
      let its : e.1 ≡ t = let it = rw here at found in cc in
      let is : IsExact used role t =
      subst (λ (x : Path × Total). IsExact used x.0 x.1) (λ i. (sym (same_path-true role e.0 here) i, its i))
      (All-head (λ (x : Path × Total). IsExact used x.0 x.1) e es exact) in
      is.known known right label
  | inr other ↦
      kept_is used es role t label right (rw other at found) known (All-tail (λ (x : Path × Total). IsExact used x.0 x.1) e es exact)
]

-- ---- totals and what roles consume change together

module _ (old new : List Usage) (role : Path) (amounts : List Entry) (totals left : List (Path × Total))
    (counted : IsCounted old totals) (some : AreSome old → AreSome new) where
  -- a role consumes more, and no sum overflows
  pub raised_beside : AreRaised old new role amounts → IsBounded new
      → ((one other : List Usage) → AreRaised one other role amounts → AreExact one totals → AreExact other left)
      → IsCounted new left
  raised_beside raised bounded follows = record {
    bounded = bounded;
    some = some counted.some;
    exact = follows old new raised counted.exact;
  }

  -- a role consumes less
  pub lowered_beside : AreRaised new old role amounts
      → ((one other : List Usage) → AreRaised other one role amounts → AreExact one totals → AreExact other left)
      → IsCounted new left
  lowered_beside raised follows = record {
    bounded = bounded-lowered old new role amounts raised counted.bounded;
    some = some counted.some;
    exact = follows old new raised counted.exact;
  }
