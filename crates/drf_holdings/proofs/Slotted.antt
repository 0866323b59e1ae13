-- Things by number in slots, after a change of the slots.
use Rattle.std.specs.Prelude.{◌≡◌, ℕ, ◌==◌, ◌<◌, ◌≤◌, ◌+◌, ◌-◌, Bool, List, [], ◌∷◌, ◌++◌, map, find, Option, Some, None, length, take, drop, set}
use Rattle.std.specs.List.{cons_option, AllByRecursion}
use Rattle.std.proofs.Common.{refl, sym, ap, subst, ◌∙◌, get_or, arith, length-append}
use Rattle.std.proofs.lemmas.List.{take-append-drop, append-nil}
use Rattle.std.proofs.lemmas.Option.{get_or_from_slice_get}
use Rattle.drf_holdings.specs.ByNumber.{things_in, IsByNumber, IsPlaceOf, KeepsOrder}
use Rattle.drf_holdings.specs.Rising.{IsRising}
use Rattle.drf_holdings.specs.Taking.{IsTaken, HasNone}
use Rattle.drf_holdings.specs.declared.by_number.Slot.{Slot}
use Rattle.drf_holdings.proofs.Slots.{set_same, found_at, free_slot_at, taken_at, kept_at, kept_order, order_prefix, order_on, things_last, free_slots_behind, things_more, kept_more}

-- one thing fewer
pub one_out : {X : Type 0} (test : X → Bool) (old new : List X) (x : X) → IsTaken test old new x → length new + 1 ≡ length old
one_out test old new x taken =
    let one = ap length taken.whole in
    let two = ap length taken.left in
    let three = length-append taken.before (x ∷ taken.after) in
    let four = length-append taken.before taken.after in
    omega arith

module _ {X : Type 0} (number : X → ℕ) (n : ℕ) (slots : List (Slot X)) (place : ℕ) (count : ℕ)
    (here : IsPlaceOf n slots place) (kept : IsByNumber number slots count) (r : Slot X) (read : r ≡ get_or slots place r) where
  read_is : r ≡ here.slot
  read_is = read ∙ get_or_from_slice_get slots place here.slot r here.at

  pub found_here : find (λ x. number x == n) (things_in slots) ≡ r.thing
  found_here =
      found_at number n slots place here.slot here.at here.its kept.under kept.rising ∙ ap (λ (s : Slot X). s.thing) (sym read_is)

  -- the slot is emptied
  module _ (w : Slot X) (free_slot : w ≡ record { number = r.number; thing = None }) where
    module _ (none : None ≡ r.thing) where
      none_is : here.slot.thing ≡ None
      none_is = ap (λ (s : Slot X). s.thing) (sym read_is) ∙ sym none

      -- if the slot was free, nothing changes
      pub same_here : set slots place w ≡ slots
      same_here =
          set_same slots place here.slot w here.at
          (free_slot ∙ (λ i. record { number = (read_is i).number; thing = sym none_is i }))

      pub none_here : HasNone (λ x. number x == n) (things_in slots) (things_in (set slots place w))
      none_here =
          subst (λ (ss : List (Slot X)). HasNone (λ x. number x == n) (things_in slots) (things_in ss)) (sym same_here)
          (free_slot_at number n slots place here.slot here.at here.its kept.under kept.rising none_is)

    module _ (x : X) (some : Some x ≡ r.thing) where
      some_is : here.slot.thing ≡ Some x
      some_is = ap (λ (s : Slot X). s.thing) (sym read_is) ∙ sym some

      same_number : w.number ≡ here.slot.number
      same_number = ap (λ (s : Slot X). s.number) free_slot ∙ ap (λ (s : Slot X). s.number) read_is

      -- the thing in the slot is removed
      pub taken_here : IsTaken (λ y. number y == n) (things_in slots) (things_in (set slots place w)) x
      taken_here =
          taken_at number n slots place here.slot here.at here.its kept.under kept.rising w x some_is same_number (ap (λ (s : Slot X). s.thing) free_slot)

      pub some_here : 1 ≤ count
      some_here = omega (arith, kept.counted, one_out (λ y. number y == n) (things_in slots) (things_in (set slots place w)) x taken_here)

      pub kept_here : IsByNumber number (set slots place w) (count - 1)
      kept_here =
          let there = some_here in
          kept_at number n slots place here.slot here.at here.its kept.under kept.rising w x some_is same_number (ap (λ (s : Slot X). s.thing) free_slot)
          (count - 1) (omega (arith, there, kept.counted))

module _ {X : Type 0} (number : X → ℕ) (old new : List (Slot X)) (count : ℕ) (order : KeepsOrder old new) (kept : IsByNumber number old count) where
  -- free slots are closed
  pub kept_same : things_in new ≡ things_in old → IsByNumber number new count
  kept_same same = kept_order number old new count count order (kept.counted ∙ ap length (sym same)) kept

  -- the last thing is removed, if there is one
  pub kept_none : things_in old ≡ things_in new ++ [] → IsByNumber number new count
  kept_none same = kept_same (sym (append-nil (things_in new)) ∙ sym same)

  pub some_last : (x : X) → things_in old ≡ things_in new ++ x ∷ [] → 1 ≤ count
  some_last x whole =
      let long = ap length whole in
      let one = length-append (things_in new) (x ∷ []) in
      omega (arith, kept.counted)

  pub kept_last : (x : X) → things_in old ≡ things_in new ++ x ∷ [] → IsByNumber number new (count - 1)
  kept_last x whole =
      let long = ap length whole in
      let one = length-append (things_in new) (x ∷ []) in
      kept_order number old new count (count - 1) order (omega (arith, kept.counted)) kept

-- a thing is appended after those below it
module _ {X : Type 0} (number : X → ℕ) (slots : List (Slot X)) (place count n : ℕ) (x : X) (its : n ≡ number x)
    (kept : IsByNumber number slots count) (rising : IsRising (map number (things_in slots ++ x ∷ [])))
    (below : AllByRecursion (λ s. s.number < n) (take place slots)) (above : AllByRecursion (λ s. n ≤ s.number) (drop place slots)) where
  pub things_cut : things_in (take place slots) ≡ things_in slots
  things_cut =
      free_slots_behind number slots place x kept.under rising
      (subst (λ (m : ℕ). AllByRecursion (λ (s : Slot X). m ≤ s.number) (drop place slots)) its above)

  pub kept_cut : IsByNumber number (take place slots) count
  kept_cut =
      kept_same number slots (take place slots) count
      (order_prefix slots (take place slots) (drop place slots) (sym (take-append-drop place slots))) kept things_cut

  pub things_put : things_in (take place slots ++ record { number = n; thing = Some x } ∷ []) ≡ things_in slots ++ x ∷ []
  things_put =
      things_more number (take place slots) (record { number = n; thing = Some x }) x refl ∙ ap (λ (xs : List X). xs ++ x ∷ []) things_cut

  pub kept_put : IsByNumber number (take place slots ++ record { number = n; thing = Some x } ∷ []) (count + 1)
  kept_put = kept_more number (take place slots) (record { number = n; thing = Some x }) x count refl its below kept_cut

-- the last slot is removed
module _ {X : Type 0} (first old new : List (Slot X)) (s : Slot X) (split : old ≡ new ++ s ∷ [])
    (same : things_in old ≡ things_in first) (order : KeepsOrder first old) where
  pub order_off : KeepsOrder first new
  order_off = order_on first old new order (order_prefix old new (s ∷ []) split)

  pub free_slot_off : None ≡ s.thing → things_in new ≡ things_in first
  free_slot_off free_slot =
      sym (append-nil (things_in new)) ∙ ap (λ (o : Option X). things_in new ++ cons_option o []) free_slot ∙ sym (things_last old new s split) ∙ same

  pub thing_off : (x : X) → Some x ≡ s.thing → things_in first ≡ things_in new ++ x ∷ []
  thing_off x thing = sym same ∙ things_last old new s split ∙ ap (λ (o : Option X). things_in new ++ cons_option o []) (sym thing)
