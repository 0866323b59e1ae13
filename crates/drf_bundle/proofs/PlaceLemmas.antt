-- What a search by label finds, and what a change at that place does.
use Rattle.std.proofs.Common.{◌≡◌, ℕ, zero, suc, ◌+◌, ◌-◌, ◌<◌, ◌≤◌, Bool, cond, true, false, List, [], ◌∷◌, length, get_or, set, slice_get, Option, Some, None, IfSome, IfNone, Result, Ok, Err, IfOk, IfErr, OnOk, is_ok, Equal, inl, inr, refl, sym, ap, ◌∙◌, subst, arith}
use Rattle.std.specs.Prelude.{IsTrue}
use Rattle.std.specs.List.{insert, position}
use Rattle.std.specs.Result.{result_ok}
use Rattle.std.specs.List.Sorted.{IsSearchInRange, IsBinarySearchResult, IsNonDecreasingBy}
use Rattle.std.specs.Ordering.{nat_cmp, is_lt, ordering_index}
use Rattle.std.specs.Cmp.Lexicographic.{slice_cmp, nat_list_cmp_total}
use Rattle.std.proofs.lemmas.Bool.{false≢true, and_parts, cases_Bool, cases_lt}
use Rattle.std.proofs.lemmas.List.{get_or_default}
use Rattle.std.proofs.lemmas.List.Quantifiers.{position-Some}
use Rattle.std.proofs.lemmas.List.Recursion.{and_at, found_at, found_nowhere, or_at, or_from_places}
use Rattle.std.proofs.lemmas.List.Sorted.{searchable_from_sorted}
use Rattle.drf_role.specs.Text.{same_text, text_below}
use Rattle.std.proofs.lemmas.Option.{get_or_from_slice_get}
use Rattle.drf_role.specs.TextLaws.{below_trans, same_from_cmp, same_from_test, test_from_same, cmp_below, cmp_itself, above_from_cmp}
use Rattle.drf_role.proofs.TextLaws.{cmp_above, below_other, above_other}
use Rattle.drf_bundle.specs.Quantities.{amount_of, is_named, is_in_order, with_amount}
use Rattle.drf_bundle.proofs.theorems.ListLaws.{position-none}
use Rattle.drf_bundle.proofs.theorems.QuantitiesLaws.{stands_first, amount-with}
use Rattle.drf_bundle.specs.KeyPlaces.{IsAt, IsFreeSlotFor}
use Rattle.drf_bundle.specs.declared.quantities.Entry.{Entry}

first_at : (n : List ℕ) (es : List Entry) (k : ℕ) (d : Entry) → IsTrue (stands_first n es) → k < length es → IsTrue (text_below n (get_or es k d).label)
first_at n es k d first in_range = and_at (stands_first n) (λ f. text_below n f.label) refl (λ _ _. refl) es k d in_range first

-- an entry comes before each later one
pub in_order_at : (es : List Entry) (i j : ℕ) (d : Entry) → IsTrue (is_in_order es) → i < j → j < length es → IsTrue (text_below (get_or es i d).label (get_or es j d).label)
in_order_at [] i j d ordered later in_range = absurd (omega arith)
in_order_at (e ∷ es) i zero d ordered later in_range = absurd (omega arith)
in_order_at (e ∷ es) zero (suc j) d ordered later in_range = first_at e.label es j d (and_parts (stands_first e.label es) (is_in_order es) ordered).0 (omega arith)
in_order_at (e ∷ es) (suc i) (suc j) d ordered later in_range = in_order_at es i j d (and_parts (stands_first e.label es) (is_in_order es) ordered).1 (omega arith) (omega arith)

-- an entry to use as the default past the end
nothing : Entry
nothing = record { label = []; amount = 0 }

module _ (es : List Entry) (label : List ℕ) where
  -- the comparisons with the label rise along the list, as a binary search requires
  comparisons_rise : IsTrue (is_in_order es) → IsNonDecreasingBy (λ e. ordering_index (slice_cmp nat_cmp e.label label)) es
  comparisons_rise ordered = searchable_from_sorted nat_list_cmp_total (λ e. e.label) es label
      (λ k d low high. ap is_lt (cmp_above (get_or es k d).label (get_or es (k + 1) d).label (in_order_at es k (k + 1) d ordered (omega arith) high)))

  -- a binary search by label ends at the label, or at the place where it would be inserted
  pub searched : IsTrue (is_in_order es) → (r : Result ℕ ℕ) → IsSearchInRange r (length es) → IsBinarySearchResult (λ e. slice_cmp nat_cmp e.label label) es r → record { found : IfOk r (IsAt es label); absent : IfErr r (IsFreeSlotFor es label) }
  searched ordered (Ok at) in_range equal = record { found = record { in_range = in_range; has_label = λ d. same_from_cmp _ _ (equal d) }; absent = tt }
  searched ordered (Err at) in_range parted = record {
    found = tt;
    absent = record {
      in_range = in_range;
      smaller_before = λ k d lt. ap is_lt ((parted (comparisons_rise ordered)).0 k d (omega arith) lt);
      greater_after = λ k d le lt. above_from_cmp (get_or es k d).label label ((parted (comparisons_rise ordered)).1 k d le lt);
    };
  }

  -- a label that comes after that of the last entry belongs at the end
  pub behind_last : IsTrue (is_in_order es) → (e : Entry) → slice_get es (length es - 1) ≡ Some e → IsTrue (text_below e.label label) → IsFreeSlotFor es label (length es)
  behind_last ordered e last below = record {
    in_range = omega arith;
    smaller_before = λ k d lt. elim (cases_lt k (length es - 1)) [
      | inl before ↦ below_trans (get_or es k d).label (get_or es (length es - 1) d).label label (in_order_at es k (length es - 1) d ordered before (omega arith)) (last_below d)
      | inr not_before ↦
          let is_last : k ≡ length es - 1 = omega arith in
          rw is_last (last_below d)
    ];
    greater_after = λ k d le lt. absurd (omega arith);
  }
    where
      last_below : (d : Entry) → IsTrue (text_below (get_or es (length es - 1) d).label label)
      last_below d = rw (get_or_from_slice_get es (length es - 1) e d last) below

  -- no entry before the place has the label
  other_before : (i : ℕ) → IsTrue (is_in_order es) → IsAt es label i → (k : ℕ) (d : Entry) → k < i → same_text (get_or es k d).label label ≡ false
  other_before i ordered at k d lt = subst (λ (t : List ℕ). same_text (get_or es k d).label t ≡ false) (at.has_label d) (below_other (get_or es k d).label (get_or es i d).label (in_order_at es k i d ordered lt at.in_range))

  pub amount_at : (i : ℕ) (d : Entry) → IsTrue (is_in_order es) → IsAt es label i → amount_of es label ≡ (get_or es i d).amount
  amount_at i d ordered at = found_at (λ l. amount_of l label) (λ e. same_text e.label label) (λ e. e.amount) 0 refl (λ _ _. refl) es i d at.in_range
      (λ k lt. other_before i ordered at k d lt) (test_from_same _ _ (at.has_label d))

  pub named_at : (i : ℕ) → IsAt es label i → is_named es label ≡ true
  named_at i at = or_at (λ l. is_named l label) (λ e. same_text e.label label) refl (λ _ _. refl) es i nothing at.in_range (test_from_same _ _ (at.has_label nothing))

  -- if the label would be inserted at a place, no entry has it
  other_around : (i : ℕ) → IsFreeSlotFor es label i → (k : ℕ) (d : Entry) → k < length es → same_text (get_or es k d).label label ≡ false
  other_around i free_slot k d in_range = elim (cases_lt k i) [
    | inl before ↦ below_other (get_or es k d).label label (free_slot.smaller_before k d before)
    | inr after ↦ above_other label (get_or es k d).label (free_slot.greater_after k d after in_range)
  ]

  pub amount_in_free_slot : (i : ℕ) → IsFreeSlotFor es label i → amount_of es label ≡ 0
  amount_in_free_slot i free_slot = found_nowhere (λ l. amount_of l label) (λ e. same_text e.label label) (λ e. e.amount) 0 refl (λ _ _. refl) es nothing (λ k lt. other_around i free_slot k nothing lt)

  -- the sum, if the label was not there
  pub sum_in_free_slot : (i n : ℕ) → IsFreeSlotFor es label i → n ≡ amount_of es label + n
  sum_in_free_slot i n free_slot = omega (arith, amount_in_free_slot i free_slot)

  pub named_in_free_slot : (i : ℕ) → IsFreeSlotFor es label i → is_named es label ≡ false
  named_in_free_slot i free_slot = or_from_places (λ l. is_named l label) (λ e. same_text e.label label) refl (λ _ _. refl) es nothing (λ k lt. other_around i free_slot k nothing lt)

  abbrev its : Entry → Bool
  its e = same_text e.label label

  -- the first entry that passes the test has the label
  pub found_first : (r : Option ℕ) → r ≡ position (λ e. same_text e.label label) es → IfSome r (IsAt es label)
  found_first (Some at) is =
      record { in_range = (position-Some its es at nothing (sym is)).0; has_label = λ d. same_from_test _ _ (position-Some its es at d (sym is)).1 }
  found_first None is = tt

  -- where no entry passes it, the label is not named
  pub named_nowhere : (r : Option ℕ) → r ≡ position (λ e. same_text e.label label) es → IfNone r (is_named es label ≡ false)
  named_nowhere (Some at) is = tt
  named_nowhere None is = position-none its es is

  -- a search by order fails only if the label is not named
  pub unnamed_from_search : (r : Result ℕ ℕ) → IfErr r (IsFreeSlotFor es label) → IfNone (result_ok r) (is_named es label ≡ false)
  unnamed_from_search (Ok at) absent = tt
  unnamed_from_search (Err at) absent = named_in_free_slot at absent

  -- a search succeeds exactly if the label is named
  pub named_from_search : (r : Result ℕ ℕ) → IfOk r (IsAt es label) → IfErr r (IsFreeSlotFor es label) → is_ok r ≡ is_named es label
  named_from_search (Ok at) found absent = sym (named_at at found)
  named_from_search (Err at) found absent = sym (named_in_free_slot at absent)

pub amount_unnamed : (es : List Entry) (label : List ℕ) → is_named es label ≡ false → amount_of es label ≡ 0
amount_unnamed [] label none = refl
amount_unnamed (e ∷ es) label none = elim (cases_Bool (same_text e.label label)) [
  | inl same ↦ absurd (let bad = rw same at none in cc)
  | inr other ↦ rw other (amount_unnamed es label (rw other at none))
]

-- overwriting the entry of a label sets its amount
pub with_at : (es : List Entry) (label : List ℕ) (a i : ℕ) → IsTrue (is_in_order es) → IsAt es label i → with_amount es label a ≡ set es i (record { label = label; amount = a })
with_at [] label a i ordered at = absurd (omega (arith, at.in_range))
with_at (e ∷ es) label a zero ordered at = rw (subst (λ (t : List ℕ). slice_cmp nat_cmp label t ≡ Equal) (sym (at.has_label e)) (cmp_itself label))
with_at (e ∷ es) label a (suc i) ordered at =
    let parts = and_parts (stands_first e.label es) (is_in_order es) ordered in
    let tail : IsAt es label i = record { in_range = omega (arith, at.in_range); has_label = at.has_label } in
    let above : IsTrue (text_below e.label label) = subst (λ (t : List ℕ). IsTrue (text_below e.label t)) (at.has_label e) (first_at e.label es i e parts.0 tail.in_range) in
    rw (cmp_above e.label label above) (ap (λ l. e ∷ l) (with_at es label a i parts.1 tail))

-- inserting an entry at its place names the label
pub with_in_free_slot : (es : List Entry) (label : List ℕ) (a i : ℕ) → IsFreeSlotFor es label i → with_amount es label a ≡ insert es i (record { label = label; amount = a })
with_in_free_slot [] label a zero free_slot = refl
with_in_free_slot [] label a (suc i) free_slot = absurd (omega (arith, free_slot.in_range))
with_in_free_slot (e ∷ es) label a zero free_slot = rw (cmp_below label e.label (free_slot.greater_after 0 e (omega arith) (omega arith)))
with_in_free_slot (e ∷ es) label a (suc i) free_slot =
    let tail : IsFreeSlotFor es label i = record {
      in_range = omega (arith, free_slot.in_range);
      smaller_before = λ k d lt. free_slot.smaller_before (suc k) d (omega arith);
      greater_after = λ k d le lt. free_slot.greater_after (suc k) d (omega arith) (omega arith);
    } in
    rw (cmp_above e.label label (free_slot.smaller_before 0 e (omega arith))) (ap (λ l. e ∷ l) (with_in_free_slot es label a i tail))

-- ---- the same, with what the code has computed

-- the amount at that place, in the entries that were borrowed
pub amount_here : (items es : List Entry) (text label : List ℕ) (i : ℕ) (had : Entry) → items ≡ es → IsTrue (is_in_order items) → text ≡ label → IsAt es text i → had ≡ get_or items i had → had.amount ≡ amount_of es label
amount_here items es text label i had same ordered named at is =
    ap (λ (e : Entry). e.amount) (is ∙ ap (λ (l : List Entry). get_or l i had) same)
    ∙ sym (amount_at es text i had (subst (λ (l : List Entry). IsTrue (is_in_order l)) same ordered) at) ∙ ap (amount_of es) named

-- the borrowed entry is at that place
pub stands_here : (items es : List Entry) (i : ℕ) (had : Entry) → items ≡ es → i < length es → had ≡ get_or items i had → IsAt es had.label i
stands_here items es i had same in_range read =
    let there : had ≡ get_or es i had = read ∙ ap (λ (l : List Entry). get_or l i had) same in
    record { in_range = in_range; has_label = λ d. ap (λ (x : Entry). x.label) (get_or_default es i d had in_range ∙ sym there) }

pub set_here : (items es : List Entry) (text label : List ℕ) (x a i : ℕ) (had : Entry) → items ≡ es → IsTrue (is_in_order items) → text ≡ label → x ≡ a → IsAt es text i → had ≡ get_or items i had → set items i (record { label = had.label; amount = x }) ≡ with_amount es label a
set_here items es text label x a i had view ordered same amount at read =
    let found : IsAt items text i = subst (λ (l : List Entry). IsAt l text i) (sym view) at in
    let named : had.label ≡ text = ap (λ (e : Entry). e.label) read ∙ found.has_label had in
    let written = with_at items text x i ordered found in
    cc

pub added_here : (items es new : List Entry) (text label : List ℕ) (x a i : ℕ) → items ≡ es → text ≡ label → x ≡ a → IsFreeSlotFor es text i → new ≡ insert items i (record { label = label; amount = x }) → new ≡ with_amount es label a
added_here items es new text label x a i view same amount free_slot made =
    let written = with_in_free_slot es text x i free_slot in
    cc

-- what is true if it was done, given that it was done
pub where_done : {T E P : Type 0} (r : Result T E) → OnOk r P → IsTrue (is_ok r) → P
where_done (Ok x) is done = is
where_done (Err x) is done = absurd (false≢true done)

-- one label is reduced, and the others are unchanged
pub reduced : (es new : List Entry) (label : List ℕ) (n : ℕ) → new ≡ with_amount es label (amount_of es label - n) → n ≤ amount_of es label
    → (other : List ℕ) → amount_of new other + cond (same_text label other) n 0 ≡ amount_of es other
reduced es new label n is fits other =
    let its : amount_of new other ≡ cond (same_text label other) (amount_of es label - n) (amount_of es other) =
    ap (λ (l : List Entry). amount_of l other) is ∙ amount-with es label (amount_of es label - n) other in
    by (same_text label other) (same_from_test label other) its
  where
    by : (b : Bool) → (b ≡ true → label ≡ other)
        → amount_of new other ≡ cond b (amount_of es label - n) (amount_of es other)
        → amount_of new other + cond b n 0 ≡ amount_of es other
    by true same its = omega (arith, its, fits, ap (amount_of es) (same refl))
    by false same its = omega (arith, its)
