-- Things in slots: finding, removing and appending.
use Rattle.std.specs.Prelude.{◌≡◌, ℕ, ◌==◌, ◌<◌, ◌≤◌, ◌+◌, Bool, true, false, not, List, [], ◌∷◌, ◌++◌, map, filter, find, cond, nat_lt, Option, Some, None, is_some, IfSome, length, take, drop, set, slice_get}
use Rattle.std.specs.List.{list_any, cons_option, AllByRecursion}
use Rattle.std.proofs.Common.{refl, sym, ap, subst, ◌∙◌, zero, suc, arith, length-append}
use Rattle.std.proofs.lemmas.Bool.{eq-eqb, lt-ltb, le-ltb}
use Rattle.std.proofs.lemmas.List.{take-append-drop, append-nil}
use Rattle.std.proofs.lemmas.List.Elements.{filter-append, filter_map-append}
use Rattle.drf_row_laws.proofs.ReleaseLaws.{split_at}
use Rattle.drf_bundle.proofs.ListLaws.{each_append}
use Rattle.drf_holdings.specs.ByNumber.{slot_number, things_in, AreUnder, IsByNumber, KeepsOrder}
use Rattle.drf_holdings.specs.Rising.{IsRising, AreOthers}
use Rattle.drf_holdings.specs.Taking.{IsTaken, HasNone}
use Rattle.drf_holdings.specs.declared.by_number.Slot.{Slot}
use Rattle.drf_holdings.proofs.RisingLists.{above_last, rising_prefix, rising_some, rising_in, others_at}

module _ {X : Type 0} where
  pub things-append : (xs ys : List (Slot X)) → things_in (xs ++ ys) ≡ things_in xs ++ things_in ys
  things-append xs ys = filter_map-append (λ s. s.thing) xs ys

  pub things-short : (slots : List (Slot X)) → length (things_in slots) ≤ length slots
  things-short [] = omega arith
  things-short (s ∷ slots) = by s.thing (things-short slots)
    where
      by : (o : Option X) → length (things_in slots) ≤ length slots → length (cons_option o (things_in slots)) ≤ length (s ∷ slots)
      by None more = omega (arith, more)
      by (Some x) more = omega (arith, more)

  -- ---- free slots are closed

  abbrev pub is_filled : Slot X → Bool
  is_filled s = is_some s.thing

  pub things-filled : (slots : List (Slot X)) → things_in (filter is_filled slots) ≡ things_in slots
  things-filled [] = refl
  things-filled (s ∷ slots) = by s.thing refl (things-filled slots)
    where
      by : (o : Option X) → o ≡ s.thing → things_in (filter is_filled slots) ≡ things_in slots
          → things_in (cond (is_some o) (s ∷ filter is_filled slots) (filter is_filled slots)) ≡ cons_option o (things_in slots)
      by None is more = more
      by (Some x) is more = ap (λ (o : Option X). cons_option o (things_in (filter is_filled slots))) (sym is) ∙ ap (λ (xs : List X). x ∷ xs) more

  under_some : (p : Slot X → Bool) (number : X → ℕ) (slots : List (Slot X)) → AreUnder number slots → AreUnder number (filter p slots)
  under_some p number [] under = tt
  under_some p number (s ∷ slots) under = by (p s) (under_some p number slots under.1)
    where
      by : (b : Bool) → AreUnder number (filter p slots) → AreUnder number (cond b (s ∷ filter p slots) (filter p slots))
      by true more = (under.0, more)
      by false more = more

  pub order_some : (p : Slot X → Bool) (slots : List (Slot X)) → KeepsOrder slots (filter p slots)
  order_some p slots = (λ number under. under_some p number slots under, λ rising. rising_some slot_number p slots rising)

  pub order_same : (slots : List (Slot X)) → KeepsOrder slots slots
  order_same slots = (λ number under. under, λ rising. rising)

  -- ---- the first slots

  under_prefix : (number : X → ℕ) (xs ys : List (Slot X)) → AreUnder number (xs ++ ys) → AreUnder number xs
  under_prefix number [] ys under = tt
  under_prefix number (s ∷ xs) ys under = (under.0, under_prefix number xs ys under.1)

  under_behind : (number : X → ℕ) (xs ys : List (Slot X)) → AreUnder number (xs ++ ys) → AreUnder number ys
  under_behind number [] ys under = under
  under_behind number (s ∷ xs) ys under = under_behind number xs ys under.1

  pub order_prefix : (old xs ys : List (Slot X)) → old ≡ xs ++ ys → KeepsOrder old xs
  order_prefix old xs ys whole = (
    λ number under. under_prefix number xs ys (subst (AreUnder number) whole under),
    λ rising. rising_prefix slot_number xs ys (subst (λ (ss : List (Slot X)). IsRising (map slot_number ss)) whole rising),
  )

  pub order_on : (a b c : List (Slot X)) → KeepsOrder a b → KeepsOrder b c → KeepsOrder a c
  order_on a b c one two = (λ number under. two.0 number (one.0 number under), λ rising. two.1 (one.1 rising))

  -- the last slot is removed
  pub things_last : (old new : List (Slot X)) (s : Slot X) → old ≡ new ++ s ∷ [] → things_in old ≡ things_in new ++ cons_option s.thing []
  things_last old new s whole = ap (λ (ss : List (Slot X)). things_in ss) whole ∙ things-append new (s ∷ [])

  -- ---- a slot is emptied

  module _ (w : Slot X) where
    set_split : (slots : List (Slot X)) (i : ℕ) (s : Slot X) → slice_get slots i ≡ Some s → set slots i w ≡ take i slots ++ w ∷ drop (suc i) slots
    set_split [] i s at = cc
    set_split (t ∷ slots) zero s at = refl
    set_split (t ∷ slots) (suc i) s at = ap (λ (ss : List (Slot X)). t ∷ ss) (set_split slots i s at)

    set_numbers : (slots : List (Slot X)) (i : ℕ) (s : Slot X) → slice_get slots i ≡ Some s → w.number ≡ s.number
        → map slot_number (set slots i w) ≡ map slot_number slots
    set_numbers [] i s at same = cc
    set_numbers (t ∷ slots) zero s at same =
        let its : t ≡ s = cc in
        ap (λ (n : ℕ). n ∷ map slot_number slots) (same ∙ ap (λ (u : Slot X). u.number) (sym its))
    set_numbers (t ∷ slots) (suc i) s at same = ap (λ (ns : List ℕ). t.number ∷ ns) (set_numbers slots i s at same)

    set_under : (number : X → ℕ) (slots : List (Slot X)) (i : ℕ) → w.thing ≡ None → AreUnder number slots → AreUnder number (set slots i w)
    set_under number [] i free_slot under = tt
    set_under number (t ∷ slots) zero free_slot under = (rw free_slot tt, under.1)
    set_under number (t ∷ slots) (suc i) free_slot under = (under.0, set_under number slots i free_slot under.1)

  pub set_same : (slots : List (Slot X)) (i : ℕ) (s w : Slot X) → slice_get slots i ≡ Some s → w ≡ s → set slots i w ≡ slots
  set_same [] i s w at same = refl
  set_same (t ∷ slots) zero s w at same =
      let its : t ≡ s = cc in
      ap (λ (u : Slot X). u ∷ slots) (same ∙ sym its)
  set_same (t ∷ slots) (suc i) s w at same = ap (λ (ss : List (Slot X)). t ∷ ss) (set_same slots i s w at same)

  -- ---- things in slots with other numbers

  module _ (number : X → ℕ) where
    pub others_things : (n : ℕ) (slots : List (Slot X)) → AreUnder number slots → AreOthers slot_number n slots → AreOthers number n (things_in slots)
    others_things n [] under others = tt
    others_things n (s ∷ slots) under others = by s.thing under.0 (others_things n slots under.1 others.1)
      where
        by : (o : Option X) → IfSome o (λ x. s.number ≡ number x) → AreOthers number n (things_in slots) → AreOthers number n (cons_option o (things_in slots))
        by None its more = more
        by (Some x) its more = (ap (λ (k : ℕ). k == n) (sym its) ∙ others.0, more)

    find_none : (n : ℕ) (xs : List X) → AreOthers number n xs → find (λ x. number x == n) xs ≡ None
    find_none n [] others = refl
    find_none n (x ∷ xs) others = rw others.0 (find_none n xs others.1)

    find_past : (n : ℕ) (xs ys : List X) → AreOthers number n xs → find (λ x. number x == n) (xs ++ ys) ≡ find (λ x. number x == n) ys
    find_past n [] ys others = refl
    find_past n (x ∷ xs) ys others = rw others.0 (find_past n xs ys others.1)

    none_passes : (n : ℕ) (xs : List X) → AreOthers number n xs → list_any (λ x. number x == n) xs ≡ false
    none_passes n [] others = refl
    none_passes n (x ∷ xs) others = rw others.0 (none_passes n xs others.1)

    -- if no slot has a number, no thing has it
    pub none_of : (n : ℕ) (slots : List (Slot X)) → AreUnder number slots → AreOthers slot_number n slots
        → HasNone (λ x. number x == n) (things_in slots) (things_in slots)
    none_of n slots under others = record { none = none_passes n (things_in slots) (others_things n slots under others); same = refl }

    pub nothing_of : (n : ℕ) (slots : List (Slot X)) → AreUnder number slots → AreOthers slot_number n slots
        → find (λ x. number x == n) (things_in slots) ≡ None
    nothing_of n slots under others = find_none n (things_in slots) (others_things n slots under others)

    module _ (n : ℕ) (slots : List (Slot X)) (place : ℕ) (s : Slot X)
        (at : slice_get slots place ≡ Some s) (its : s.number ≡ n)
        (under : AreUnder number slots) (rising : IsRising (map slot_number slots)) where
      split : slots ≡ take place slots ++ s ∷ drop (suc place) slots
      split = split_at slots place s at

      under_split : AreUnder number (take place slots ++ s ∷ drop (suc place) slots)
      under_split = subst (AreUnder number) split under

      others : AreOthers slot_number n (take place slots) × AreOthers slot_number n (drop (suc place) slots)
      others =
          subst (λ (m : ℕ). AreOthers slot_number m (take place slots) × AreOthers slot_number m (drop (suc place) slots)) its
          (others_at slot_number slots place s rising at)

      before_others : AreOthers number n (things_in (take place slots))
      before_others = others_things n (take place slots) (under_prefix number (take place slots) (s ∷ drop (suc place) slots) under_split) others.0

      after_under : AreUnder number (s ∷ drop (suc place) slots)
      after_under = under_behind number (take place slots) (s ∷ drop (suc place) slots) under_split

      after_others : AreOthers number n (things_in (drop (suc place) slots))
      after_others = others_things n (drop (suc place) slots) after_under.1 others.1

      things_split : things_in slots ≡ things_in (take place slots) ++ cons_option s.thing (things_in (drop (suc place) slots))
      things_split = ap (λ (ss : List (Slot X)). things_in ss) split ∙ things-append (take place slots) (s ∷ drop (suc place) slots)

      has_number : (x : X) → s.thing ≡ Some x → number x ≡ n
      has_number x is = sym (subst (λ (o : Option X). IfSome o (λ y. s.number ≡ number y)) is after_under.0) ∙ its

      -- the thing in the slot with a number is the one that is found by it
      pub found_at : find (λ x. number x == n) (things_in slots) ≡ s.thing
      found_at =
          ap (find (λ x. number x == n)) things_split
          ∙ find_past n (things_in (take place slots)) (cons_option s.thing (things_in (drop (suc place) slots))) before_others
          ∙ by s.thing refl
        where
          by : (o : Option X) → s.thing ≡ o → find (λ x. number x == n) (cons_option o (things_in (drop (suc place) slots))) ≡ o
          by None is = find_none n (things_in (drop (suc place) slots)) after_others
          by (Some x) is = rw (eq-eqb (number x) n (has_number x is)) refl

      -- if the slot with a number is free, no thing has the number
      pub free_slot_at : s.thing ≡ None → HasNone (λ x. number x == n) (things_in slots) (things_in slots)
      free_slot_at is = record {
        none =
            ap (list_any (λ x. number x == n))
            (things_split ∙ ap (λ (o : Option X). things_in (take place slots) ++ cons_option o (things_in (drop (suc place) slots))) is)
            ∙ none_passes n (things_in (take place slots) ++ things_in (drop (suc place) slots))
            (each_append (λ x. (number x == n) ≡ false) (things_in (take place slots)) (things_in (drop (suc place) slots)) before_others after_others);
        same = refl;
      }

      module _ (w : Slot X) (x : X) (is : s.thing ≡ Some x) (same : w.number ≡ s.number) (free_slot : w.thing ≡ None) where
        things_left : things_in (set slots place w) ≡ things_in (take place slots) ++ things_in (drop (suc place) slots)
        things_left =
            ap (λ (ss : List (Slot X)). things_in ss) (set_split w slots place s at)
            ∙ things-append (take place slots) (w ∷ drop (suc place) slots)
            ∙ ap (λ (o : Option X). things_in (take place slots) ++ cons_option o (things_in (drop (suc place) slots))) free_slot

        things_whole : things_in slots ≡ things_in (take place slots) ++ x ∷ things_in (drop (suc place) slots)
        things_whole = things_split ∙ ap (λ (o : Option X). things_in (take place slots) ++ cons_option o (things_in (drop (suc place) slots))) is

        -- the thing in the slot with a number is removed
        pub taken_at : IsTaken (λ y. number y == n) (things_in slots) (things_in (set slots place w)) x
        taken_at = record {
          before = things_in (take place slots);
          after = things_in (drop (suc place) slots);
          whole = things_whole;
          left = things_left;
          passes = eq-eqb (number x) n (has_number x is);
        }

        pub kept_at : (count : ℕ) → count + 1 ≡ length (things_in slots) → IsByNumber number (set slots place w) count
        kept_at count counted = record {
          under = set_under w number slots place free_slot under;
          rising = subst IsRising (sym (set_numbers w slots place s at same)) rising;
          counted =
              let one = ap length things_whole in
              let two = ap length things_left in
              let three = length-append (things_in (take place slots)) (x ∷ things_in (drop (suc place) slots)) in
              let four = length-append (things_in (take place slots)) (things_in (drop (suc place) slots)) in
              omega arith;
        }

    -- ---- slots from a number on

    pub kept_order : (old new : List (Slot X)) (was count : ℕ) → KeepsOrder old new → count ≡ length (things_in new) → IsByNumber number old was → IsByNumber number new count
    kept_order old new was count order counted kept = record { under = order.0 number kept.under; rising = order.1 kept.rising; counted = counted }

    -- ---- a thing is appended

    below_last : (xs : List X) (x : X) → IsRising (map number (xs ++ x ∷ [])) → AllByRecursion (λ y. number y < number x) xs
    below_last [] x rising = tt
    below_last (y ∷ ys) x rising = (above_last number (number y) ys [] x rising.0, below_last ys x rising.1)

    none_above : (n : ℕ) (slots : List (Slot X)) → AreUnder number slots → AllByRecursion (λ s. n ≤ s.number) slots
        → AllByRecursion (λ y. number y < n) (things_in slots) → things_in slots ≡ []
    none_above n [] under above below = refl
    none_above n (s ∷ slots) under above below = by s.thing under.0 (λ later. none_above n slots under.1 above.1 later) below
      where
        by : (o : Option X) → IfSome o (λ x. s.number ≡ number x) → (AllByRecursion (λ y. number y < n) (things_in slots) → things_in slots ≡ [])
            → AllByRecursion (λ y. number y < n) (cons_option o (things_in slots)) → cons_option o (things_in slots) ≡ []
        by None its later below = later below
        by (Some x) its later below = absurd (omega (arith, its, above.0, below.0))

    each_behind : (P : X → Type 0) (xs ys : List X) → AllByRecursion P (xs ++ ys) → AllByRecursion P ys
    each_behind P [] ys all = all
    each_behind P (x ∷ xs) ys all = each_behind P xs ys all.1

    module _ (slots : List (Slot X)) (place : ℕ) (x : X)
        (under : AreUnder number slots) (rising : IsRising (map number (things_in slots ++ x ∷ [])))
        (above : AllByRecursion (λ s. number x ≤ s.number) (drop place slots)) where
      cut : slots ≡ take place slots ++ drop place slots
      cut = sym (take-append-drop place slots)

      things_cut : things_in slots ≡ things_in (take place slots) ++ things_in (drop place slots)
      things_cut = ap (λ (ss : List (Slot X)). things_in ss) cut ∙ things-append (take place slots) (drop place slots)

      -- the slots from the last number on are free
      pub free_slots_behind : things_in (take place slots) ≡ things_in slots
      free_slots_behind =
          let below = subst (λ (xs : List X). AllByRecursion (λ y. number y < number x) xs) things_cut (below_last (things_in slots) x rising) in
          let none =
          none_above (number x) (drop place slots) (under_behind number (take place slots) (drop place slots) (subst (AreUnder number) cut under)) above
          (each_behind (λ y. number y < number x) (things_in (take place slots)) (things_in (drop place slots)) below) in
          sym (things_cut ∙ ap (λ (xs : List X). things_in (take place slots) ++ xs) none ∙ append-nil (things_in (take place slots)))

    under_last : (slots : List (Slot X)) (s : Slot X) → AreUnder number slots → IfSome s.thing (λ x. s.number ≡ number x) → AreUnder number (slots ++ s ∷ [])
    under_last [] s under its = (its, tt)
    under_last (t ∷ slots) s under its = (under.0, under_last slots s under.1 its)

    pub things_more : (slots : List (Slot X)) (s : Slot X) (x : X) → s.thing ≡ Some x → things_in (slots ++ s ∷ []) ≡ things_in slots ++ x ∷ []
    things_more slots s x is = things-append slots (s ∷ []) ∙ ap (λ (o : Option X). things_in slots ++ cons_option o []) is

    pub kept_more : (slots : List (Slot X)) (s : Slot X) (x : X) (count : ℕ) → s.thing ≡ Some x → s.number ≡ number x
        → AllByRecursion (λ t. t.number < s.number) slots → IsByNumber number slots count → IsByNumber number (slots ++ s ∷ []) (count + 1)
    kept_more slots s x count is its below kept = record {
      under = under_last slots s kept.under (subst (λ (o : Option X). IfSome o (λ y. s.number ≡ number y)) (sym is) its);
      rising = rising_in slot_number slots s kept.rising below;
      counted =
          let one = ap length (things_more slots s x is) in
          let two = length-append (things_in slots) (x ∷ []) in
          omega (arith, kept.counted);
    }

    -- ---- things from a number on

    gone_below : (n : ℕ) (slots : List (Slot X)) → AreUnder number slots → AllByRecursion (λ s. s.number < n) slots
        → filter (λ x. not (nat_lt (number x) n)) (things_in slots) ≡ []
    gone_below n [] under below = refl
    gone_below n (s ∷ slots) under below = by s.thing under.0 (gone_below n slots under.1 below.1)
      where
        by : (o : Option X) → IfSome o (λ x. s.number ≡ number x) → filter (λ x. not (nat_lt (number x) n)) (things_in slots) ≡ []
            → filter (λ x. not (nat_lt (number x) n)) (cons_option o (things_in slots)) ≡ []
        by None its more = more
        by (Some x) its more = rw (lt-ltb (number x) n (omega (arith, its, below.0))) more

    kept_above : (n : ℕ) (slots : List (Slot X)) → AreUnder number slots → AllByRecursion (λ s. n ≤ s.number) slots
        → filter (λ x. not (nat_lt (number x) n)) (things_in slots) ≡ things_in slots
    kept_above n [] under above = refl
    kept_above n (s ∷ slots) under above = by s.thing under.0 (kept_above n slots under.1 above.1)
      where
        by : (o : Option X) → IfSome o (λ x. s.number ≡ number x) → filter (λ x. not (nat_lt (number x) n)) (things_in slots) ≡ things_in slots
            → filter (λ x. not (nat_lt (number x) n)) (cons_option o (things_in slots)) ≡ cons_option o (things_in slots)
        by None its more = more
        by (Some x) its more = rw (le-ltb (number x) n (omega (arith, its, above.0))) (ap (λ (xs : List X). x ∷ xs) more)

    pub things_from : (n : ℕ) (slots : List (Slot X)) (place : ℕ) → AreUnder number slots
        → AllByRecursion (λ s. s.number < n) (take place slots) → AllByRecursion (λ s. n ≤ s.number) (drop place slots)
        → things_in (drop place slots) ≡ filter (λ x. not (nat_lt (number x) n)) (things_in slots)
    things_from n slots place under below above =
        let cut = sym (take-append-drop place slots) in
        let both = subst (AreUnder number) cut under in
        sym (
        ap (λ (ss : List (Slot X)). filter (λ x. not (nat_lt (number x) n)) (things_in ss)) cut
        ∙ ap (filter (λ x. not (nat_lt (number x) n))) (things-append (take place slots) (drop place slots))
        ∙ filter-append (λ x. not (nat_lt (number x) n)) (things_in (take place slots)) (things_in (drop place slots))
        ∙ ap (λ (xs : List X). xs ++ filter (λ x. not (nat_lt (number x) n)) (things_in (drop place slots)))
        (gone_below n (take place slots) (under_prefix number (take place slots) (drop place slots) both) below)
        ∙ kept_above n (drop place slots) (under_behind number (take place slots) (drop place slots) both) above
        )
