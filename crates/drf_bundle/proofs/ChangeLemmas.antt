-- The steps of the loops that add two lists, and that subtract one from another.
use Rattle.std.proofs.Common.{◌≡◌, ℕ, ◌+◌, ◌-◌, ◌^◌, ◌<◌, ◌≤◌, Bool, true, false, not, List, [], ◌∷◌, ◌++◌, length, get_or, set, map, take, drop, IsTrue, inl, inr, sym, ap, ◌∙◌, subst, refl, cond, arith, add-one, append-nil}
use Rattle.std.proofs.Math.Seq.{drop-cons}
use Rattle.std.specs.Prelude.{◌||◌}
use Rattle.std.proofs.lemmas.Bool.{and_parts, and_from}
use Rattle.std.proofs.lemmas.Grind.{common_steps}
use Rattle.std.proofs.lemmas.List.{take_all, drop_all, get_or-append_right, get_or-drop, get_or_default, take-append-le}
use Rattle.std.proofs.lemmas.List.Edits.{map_over_more}
use Rattle.drf_role.specs.Text.{same_text}
use Rattle.drf_role.proofs.TextLaws.{cases_same}
use Rattle.drf_bundle.specs.Quantities.{amount_of, is_named, names_all, is_in_order, with_amount, plus, minus, covers}
use Rattle.drf_bundle.proofs.theorems.QuantitiesLaws.{stands_first, amount_first, amount_head, amount-with, covers_at, named-with, unnamed_in}
use Rattle.drf_bundle.specs.KeyPlaces.{IsAt}
use Rattle.drf_bundle.proofs.PlaceLemmas.{amount_at}
use Rattle.drf_bundle.specs.declared.quantities.Entry.{Entry}

-- the entry that is read is the first of the remaining ones
pub next_of : (es : List Entry) (i : ℕ) (e : Entry) → i < length es → e ≡ get_or es i e → drop i es ≡ e ∷ drop (i + 1) es
next_of es i e in_range read =
    let split : drop i es ≡ get_or es i e ∷ drop (i + 1) es = rw (add-one) (drop-cons es i e in_range) in
    split ∙ ap (λ (x : Entry). x ∷ drop (i + 1) es) (sym read)

-- the sum with an entry is small enough if the whole sum is
pub entry_fits : (sum es : List Entry) (e : Entry) → ((n : List ℕ) → amount_of sum n + amount_of (e ∷ es) n < 2 ^ 64) → amount_of sum e.label + e.amount < 2 ^ 64
entry_fits sum es e fits = omega (arith, fits e.label, amount_head e es)

-- after it is added, the sum with the others is small enough
pub others_fit : (sum es : List Entry) (e : Entry) → IsTrue (stands_first e.label es) → ((n : List ℕ) → amount_of sum n + amount_of (e ∷ es) n < 2 ^ 64) → (n : List ℕ) → amount_of (with_amount sum e.label (amount_of sum e.label + e.amount)) n + amount_of es n < 2 ^ 64
others_fit sum es e first fits n =
    let set_to = amount-with sum e.label (amount_of sum e.label + e.amount) n in
    elim (cases_same e.label n) [
      | inl same ↦
          let none : amount_of es n ≡ 0 = subst (λ (t : List ℕ). amount_of es t ≡ 0) same.1 (amount_first e.label es first) in
          let here : amount_of (with_amount sum e.label (amount_of sum e.label + e.amount)) n ≡ amount_of sum e.label + e.amount = rw (same.0) at set_to in
          omega (arith, entry_fits sum es e fits)
      | inr other ↦
          let here : amount_of (with_amount sum e.label (amount_of sum e.label + e.amount)) n ≡ amount_of sum n = rw (other.0) at set_to in
          let fit : amount_of sum n + amount_of es n < 2 ^ 64 = rw (other.0) at (fits n) in
          omega arith
    ]

or_right : (b c : Bool) → IsTrue c → IsTrue (b || c)
or_right true c known = refl
or_right false c known = known

-- named labels stay named
still_named : (sum es : List Entry) (label : List ℕ) (a : ℕ) → IsTrue (names_all sum es) → IsTrue (names_all (with_amount sum label a) es)
still_named sum [] label a named = refl
still_named sum (e ∷ es) label a named =
    let parts = and_parts (is_named sum e.label) (names_all sum es) named in
    and_from _ _ (rw (named-with sum label a e.label) (or_right (same_text label e.label) (is_named sum e.label) parts.0)) (still_named sum es label a parts.1)

-- ---- a step of an addition: the entry at place i is added, and those after it remain

module _ (sum es : List Entry) (i : ℕ) (e : Entry) (in_range : i < length es) (read : e ≡ get_or es i e) where
  pub sum_fits : ((n : List ℕ) → amount_of sum n + amount_of (drop i es) n < 2 ^ 64) → amount_of sum e.label + e.amount < 2 ^ 64
  sum_fits fits = entry_fits sum (drop (i + 1) es) e (subst (λ (l : List Entry). (n : List ℕ) → amount_of sum n + amount_of l n < 2 ^ 64) (next_of es i e in_range read) fits)

  pub added_whole : (all : List Entry) → plus sum (drop i es) ≡ all → plus (with_amount sum e.label (amount_of sum e.label + e.amount)) (drop (i + 1) es) ≡ all
  added_whole all whole = subst (λ (l : List Entry). plus sum l ≡ all) (next_of es i e in_range read) whole

  added_parts : IsTrue (is_in_order (drop i es)) → IsTrue (stands_first e.label (drop (i + 1) es)) × IsTrue (is_in_order (drop (i + 1) es))
  added_parts ordered = and_parts _ _ (subst (λ (l : List Entry). IsTrue (is_in_order l)) (next_of es i e in_range read) ordered)

  pub added_fits : IsTrue (is_in_order (drop i es)) → ((n : List ℕ) → amount_of sum n + amount_of (drop i es) n < 2 ^ 64) → (n : List ℕ) → amount_of (with_amount sum e.label (amount_of sum e.label + e.amount)) n + amount_of (drop (i + 1) es) n < 2 ^ 64
  added_fits ordered fits = others_fit sum (drop (i + 1) es) e (added_parts ordered).0 (subst (λ (l : List Entry). (n : List ℕ) → amount_of sum n + amount_of l n < 2 ^ 64) (next_of es i e in_range read) fits)

  pub added_in_order : IsTrue (is_in_order (drop i es)) → IsTrue (is_in_order (drop (i + 1) es))
  added_in_order ordered = (added_parts ordered).1

  -- all remaining labels are named: that of this entry, and those of the others
  named_parts : IsTrue (names_all sum (drop i es)) → IsTrue (is_named sum e.label) × IsTrue (names_all sum (drop (i + 1) es))
  named_parts named = and_parts _ _ (subst (λ (l : List Entry). IsTrue (names_all sum l)) (next_of es i e in_range read) named)

  pub named_now : IsTrue (names_all sum (drop i es)) → IsTrue (is_named sum e.label)
  named_now named = (named_parts named).0

  pub named_on : IsTrue (names_all sum (drop i es)) → IsTrue (names_all (with_amount sum e.label (amount_of sum e.label + e.amount)) (drop (i + 1) es))
  named_on named = still_named sum (drop (i + 1) es) e.label (amount_of sum e.label + e.amount) (named_parts named).1

-- ---- a step of counting new labels

-- the entry at place i counts if its label is not named
pub unnamed_from : (names es : List Entry) (i : ℕ) (e : Entry) (named : Bool) → i < length es → e ≡ get_or es i e → is_named names e.label ≡ named
    → length (unnamed_in names (drop i es)) ≡ cond named 0 1 + length (unnamed_in names (drop (i + 1) es))
unnamed_from names es i e named in_range read test =
    ap (λ (l : List Entry). length (unnamed_in names l)) (next_of es i e in_range read) ∙ rw test (counted named (unnamed_in names (drop (i + 1) es)))
  where
    counted : (b : Bool) (others : List Entry) → length (cond (not b) (e ∷ others) others) ≡ cond b 0 1 + length others
    counted true others = omega arith
    counted false others = omega arith

-- ---- a step of a subtraction

-- what `minus` does to one entry
abbrev pub less_by : List Entry → Entry → Entry
less_by others e = record { label = e.label; amount = e.amount - amount_of others e.label }

-- an entry that was not reached yet is unchanged
pub unchanged_at : (others es now : List Entry) (i : ℕ) (e : Entry) → i < length es → now ≡ map (less_by others) (take i es) ++ drop i es → e ≡ get_or now i e → e ≡ get_or es i e
unchanged_at others es now i e in_range so_far read =
    let prefix : length (map (less_by others) (take i es)) ≡ i = grind (arith, common_steps) in
    read ∙ ap (λ (l : List Entry). get_or l i e) so_far ∙ get_or-append_right (map (less_by others) (take i es)) (drop i es) i i e prefix (omega arith) ∙ get_or-drop i es (i - i) e ∙ ap (λ (k : ℕ). get_or es k e) (omega arith)

-- each entry has at least what is subtracted
pub enough_at : (es others : List Entry) (i : ℕ) (e : Entry) → IsTrue (is_in_order es) → IsTrue (covers es others) → i < length es → e ≡ get_or es i e → amount_of others e.label ≤ e.amount
enough_at es others i e ordered covered in_range read =
    let at : IsAt es e.label i = record { in_range = in_range; has_label = λ d. ap (λ (x : Entry). x.label) (get_or_default es i d e in_range ∙ sym read) } in
    let amount : amount_of es e.label ≡ e.amount = amount_at es e.label i e ordered at ∙ ap (λ (x : Entry). x.amount) (sym read) in
    omega (arith, covers_at es others covered e.label)

-- the reduced entry replaces the old one
pub lowered_more : (others es now : List Entry) (i : ℕ) (e : Entry) (x : ℕ) → i < length es → now ≡ map (less_by others) (take i es) ++ drop i es → e ≡ get_or now i e → x ≡ e.amount - amount_of others e.label → set now i (record { label = (get_or now i e).label; amount = x }) ≡ map (less_by others) (take (i + 1) es) ++ drop (i + 1) es
lowered_more others es now i e x in_range so_far read lowered =
    let written = map_over_more (less_by others) es now i e in_range so_far read in
    let named : (get_or now i e).label ≡ e.label = ap (λ (y : Entry). y.label) (sym read) in
    rw (named, lowered) written

-- at the end each entry is reduced
pub lowered_all : (others es now : List Entry) (i : ℕ) → length es ≤ i → now ≡ map (less_by others) (take i es) ++ drop i es → now ≡ minus es others
lowered_all others es now i end so_far = so_far ∙ rw (take_all i es end, drop_all i es end, append-nil)

-- a vector that was completely overwritten contains what was written
pub refilled : (old new : List Entry) (n : ℕ) → length new ≡ n → take n (new ++ drop (length new) old) ≡ new
refilled old new n long = take-append-le n new (drop (length new) old) (omega arith) ∙ take_all n new (omega arith)
