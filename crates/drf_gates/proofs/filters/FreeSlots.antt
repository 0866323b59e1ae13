-- Lists with gaps.
use Rattle.std.proofs.Common.{◌≡◌, ◌≢◌, ◌+◌, ◌<◌, ◌≤◌, ℕ, zero, suc, Bool, true, false, cond, if◌then◌else◌, not, inl, inr, refl, List, [], ◌∷◌, ◌++◌, Option, None, Some, is_some, map, filter, length, get_or, set, take, min, count_by, ap, ◌∙◌, sym, arith, length-append}
use Rattle.std.proofs.lemmas.Bool.{cases_Bool}
use Rattle.std.proofs.lemmas.List.{length-map, length-set, length-take, take_all, get_or-set_same, get_or-set_other, get_or_default}
use Rattle.std.proofs.lemmas.List.Sums.{length-filter}
use Rattle.std.proofs.lemmas.List.Elements.{filter-append, filter_map-append}
use Rattle.std.specs.List.{list_any}
use Rattle.drf_hash.specs.Slots.{filled}
use Rattle.drf_hash.proofs.FreeSlotLaws.{filled-more}
use Rattle.drf_hash.proofs.SlotLaws.{filled-short, length-free_slot}
use Rattle.drf_gates.specs.filters.Slots.{slot_passes, without_one}

-- no gap leaves as many
filled-as_many : {X : Type 0} (slots : List (Option X)) → length (filled slots) ≡ length slots → map Some (filled slots) ≡ slots
filled-as_many [] same = refl
filled-as_many (None ∷ slots) same = absurd (omega (arith, same, filled-short slots))
filled-as_many {X} (Some x ∷ slots) same = ap (λ (ys : List (Option X)). Some x ∷ ys) (filled-as_many slots (omega (arith, same)))

-- what is kept of slots, without the gaps
pub keep-filled : {X : Type 0} (p : X → Bool) (slots : List (Option X)) → filter (slot_passes p) slots ≡ map Some (filter p (filled slots))
keep-filled p [] = refl
keep-filled p (None ∷ slots) = keep-filled p slots
keep-filled {X} p (Some x ∷ slots) = elim (cases_Bool (p x)) [
  | inl kept ↦ rw kept (ap (λ (ys : List (Option X)). Some x ∷ ys) (keep-filled p slots))
  | inr gone ↦ rw gone (keep-filled p slots)
]

pub any-filled : {X : Type 0} (p : X → Bool) (slots : List (Option X)) → list_any (slot_passes p) slots ≡ list_any p (filled slots)
any-filled p [] = refl
any-filled p (None ∷ slots) = any-filled p slots
any-filled p (Some x ∷ slots) = elim (cases_Bool (p x)) [
  | inl holds ↦ rw holds refl
  | inr fails ↦ rw fails (any-filled p slots)
]

-- one more behind the others
pub filled-push : {X : Type 0} (slots more : List (Option X)) (x : X) → more ≡ slots ++ Some x ∷ [] → filled more ≡ filled slots ++ x ∷ []
filled-push {X} slots more x is = ap (λ (ss : List (Option X)). filled ss) is ∙ filter_map-append (λ s. s) slots (Some x ∷ [])

pub live-push : {X : Type 0} (slots more : List (Option X)) (x : X) (live : ℕ) → more ≡ slots ++ Some x ∷ [] → live ≡ length (filled slots)
    → live + 1 ≡ length (filled more)
live-push slots more x live is all =
    let longer : length (filled more) ≡ length (filled slots) + 1 = ap length (filled-push slots more x is) ∙ length-append (filled slots) (x ∷ []) in
    omega (arith, longer, all)

-- ---- one slot is emptied

pub set-free_slot : {X : Type 0} (slots : List (Option X)) (place : ℕ) → get_or slots place None ≡ None → set slots place None ≡ slots
set-free_slot [] place free_slot = refl
set-free_slot {X} (s ∷ slots) zero free_slot = ap (λ (t : Option X). t ∷ slots) (sym free_slot)
set-free_slot {X} (s ∷ slots) (suc place) free_slot = ap (λ (ys : List (Option X)). s ∷ ys) (set-free_slot slots place free_slot)

-- one fewer where something is taken, and as many where nothing is
pub taken-one : {X : Type 0} (slots : List (Option X)) (place : ℕ) (slot read : Option X) → place < length slots → slot ≡ get_or slots place slot
    → read ≡ slot → is_some read ≡ true → length (filled (set slots place None)) + 1 ≡ length (filled slots)
taken-one slots place slot None small at same some = cc
taken-one slots place slot (Some x) small at same some =
    length-free_slot slots place x (get_or_default slots place None slot small ∙ sym at ∙ sym same)

pub taken-none : {X : Type 0} (slots : List (Option X)) (place : ℕ) (slot read : Option X) → place < length slots → slot ≡ get_or slots place slot
    → read ≡ slot → is_some read ≡ false → length (filled (set slots place None)) ≡ length (filled slots)
taken-none {X} slots place slot None small at same none =
    ap (λ (ss : List (Option X)). length (filled ss)) (set-free_slot slots place (get_or_default slots place None slot small ∙ sym at ∙ sym same))
taken-none slots place slot (Some x) small at same none = cc

-- what others keep
pub set-others : {X : Type 0} (p : X → Bool) (slots : List (Option X)) (place : ℕ) (x : X) → get_or slots place None ≡ Some x → p x ≡ false
    → filter p (filled (set slots place None)) ≡ filter p (filled slots)
set-others p [] place x one fails = refl
set-others p (s ∷ slots) zero x one fails = rw (one, fails) refl
set-others p (None ∷ slots) (suc place) x one fails = set-others p slots place x one fails
set-others {X} p (Some y ∷ slots) (suc place) x one fails = elim (cases_Bool (p y)) [
  | inl kept ↦ rw kept (ap (λ (ys : List X). y ∷ ys) (set-others p slots place x one fails))
  | inr gone ↦ rw gone (set-others p slots place x one fails)
]

-- ---- no slot passes

pub no_slot : {X : Type 0} (p : X → Bool) (slots : List (Option X))
    → ((place : ℕ) (d : Option X) → place < length slots → slot_passes p (get_or slots place d) ≡ false)
    → filter (λ x. not (p x)) (filled slots) ≡ filled slots
no_slot p [] none = refl
no_slot p (None ∷ slots) none = no_slot p slots (λ k d below. none (suc k) d (omega (arith, below)))
no_slot {X} p (Some x ∷ slots) none =
    let here : p x ≡ false = none 0 None (omega arith) in
    rw here (ap (λ (ys : List X). x ∷ ys) (no_slot p slots (λ k d below. none (suc k) d (omega (arith, below)))))

-- ---- the rest

-- the rest of slots, without the gaps: at most as many, and all where as many
pub record IsLess {X : Type 0} (slots left : List (Option X)) : Type 0 where
  pub at_most : length left ≤ length slots
  pub or_all : length left ≡ length slots → left ≡ slots

left-less : {X : Type 0} (slots left : List (Option X)) (xs : List X) → left ≡ map Some xs
    → length xs ≤ length (filled slots) → (length xs ≡ length (filled slots) → xs ≡ filled slots) → IsLess slots left
left-less {X} slots left xs is small all =
    let long : length left ≡ length xs = ap length is ∙ length-map xs Some in
    record {
      at_most = omega (arith, long, small, filled-short slots);
      or_all = λ same.
          let full : length (filled slots) ≡ length slots = omega (arith, long, small, same, filled-short slots) in
          is ∙ ap (λ (ys : List X). map Some ys) (all (omega (arith, long, same, full))) ∙ filled-as_many slots full;
    }

pub all-less : {X : Type 0} (slots left : List (Option X)) → left ≡ map Some (filled slots) → IsLess slots left
all-less slots left is = left-less slots left (filled slots) is (omega arith) (λ same. refl)

pub take-less : {X : Type 0} (n : ℕ) (slots left : List (Option X)) → left ≡ map Some (take n (filled slots)) → IsLess slots left
take-less n slots left is =
    let long : length (take n (filled slots)) ≡ min n (length (filled slots)) = length-take n (filled slots) in
    left-less slots left (take n (filled slots)) is (omega (arith, long)) (λ same. take_all n (filled slots) (omega (arith, long, same)))

-- ---- the slots are gone over

pub count-filled : {X : Type 0} (p : X → Bool) (slots : List (Option X)) → count_by (slot_passes p) slots ≡ count_by p (filled slots)
count-filled p slots =
    sym (length-filter (slot_passes p) slots) ∙ ap length (keep-filled p slots) ∙ length-map (filter p (filled slots)) Some ∙ length-filter p (filled slots)

-- one more slot, of which what passes a test is put behind
pub more-filter : {X : Type 0} (p : X → Bool) (slots : List (Option X)) (i : ℕ) (slot : Option X) (xs more : List X) → i < length slots → slot ≡ get_or slots i slot
    → xs ≡ filter p (filled (take i slots)) → more ≡ xs ++ filter p (filled (slot ∷ [])) → more ≡ filter p (filled (take (i + 1) slots))
more-filter {X} p slots i slot xs more below read is is_more =
    is_more ∙ ap (λ (ys : List X). ys ++ filter p (filled (slot ∷ []))) is
    ∙ sym (ap (λ (ys : List X). filter p ys) (filled-more slots i slot below read) ∙ filter-append p (filled (take i slots)) (filled (slot ∷ [])))

-- or all of it
pub more-all : {X : Type 0} (slots : List (Option X)) (i : ℕ) (slot : Option X) (xs more : List X) → i < length slots → slot ≡ get_or slots i slot
    → xs ≡ filled (take i slots) → more ≡ xs ++ filled (slot ∷ []) → more ≡ filled (take (i + 1) slots)
more-all {X} slots i slot xs more below read is is_more =
    is_more ∙ ap (λ (ys : List X). ys ++ filled (slot ∷ [])) is ∙ sym (filled-more slots i slot below read)

-- ---- what is at a place is taken, if it passes

module _ {X : Type 0} (p : X → Bool) (slots : List (Option X)) (place : ℕ) (small : place < length slots) where
  taken : slot_passes p (get_or slots place None) ≡ true → without_one p slots place ≡ set slots place None
  taken passes = λ i. cond (passes i) (set slots place None) slots

  left : slot_passes p (get_or slots place None) ≡ false → without_one p slots place ≡ slots
  left fails = λ i. cond (fails i) (set slots place None) slots

  pub without-length : length (without_one p slots place) ≡ length slots
  without-length = elim (cases_Bool (slot_passes p (get_or slots place None))) [
    | inl passes ↦ ap length (taken passes) ∙ length-set slots place None
    | inr fails ↦ ap length (left fails)
  ]

  pub without-other : (q : ℕ) (d : Option X) → q ≢ place → get_or (without_one p slots place) q d ≡ get_or slots q d
  without-other q d apart = elim (cases_Bool (slot_passes p (get_or slots place None))) [
    | inl passes ↦ ap (λ (ss : List (Option X)). get_or ss q d) (taken passes) ∙ get_or-set_other slots place q None d apart
    | inr fails ↦ ap (λ (ss : List (Option X)). get_or ss q d) (left fails)
  ]

  pub without-here : (d : Option X) → slot_passes p (get_or (without_one p slots place) place d) ≡ false
  without-here d = elim (cases_Bool (slot_passes p (get_or slots place None))) [
    | inl passes ↦ ap (λ (ss : List (Option X)). slot_passes p (get_or ss place d)) (taken passes)
        ∙ ap (λ (s : Option X). slot_passes p s) (get_or-set_same slots place None d small)
    | inr fails ↦ ap (λ (ss : List (Option X)). slot_passes p (get_or ss place d)) (left fails)
        ∙ ap (λ (s : Option X). slot_passes p s) (get_or_default slots place d None small) ∙ fails
  ]

  kept-others : (s : Option X) → get_or slots place None ≡ s → slot_passes p s ≡ true
      → filter (λ x. not (p x)) (filled (set slots place None)) ≡ filter (λ x. not (p x)) (filled slots)
  kept-others None here passes = cc
  kept-others (Some x) here passes = set-others (λ y. not (p y)) slots place x here (ap not passes)

  -- what does not pass stays
  pub without-others : filter (λ x. not (p x)) (filled (without_one p slots place)) ≡ filter (λ x. not (p x)) (filled slots)
  without-others = elim (cases_Bool (slot_passes p (get_or slots place None))) [
    | inl passes ↦ ap (λ (ss : List (Option X)). filter (λ x. not (p x)) (filled ss)) (taken passes) ∙ kept-others (get_or slots place None) refl passes
    | inr fails ↦ ap (λ (ss : List (Option X)). filter (λ x. not (p x)) (filled ss)) (left fails)
  ]

-- what is taken if it passes
pub without-if : {X : Type 0} (p : X → Bool) (slots left : List (Option X)) (place : ℕ) (slot : Option X) (leaves : Bool) → place < length slots
    → slot ≡ get_or slots place slot → leaves ≡ slot_passes p slot → left ≡ (if leaves then set slots place None else slots) → left ≡ without_one p slots place
without-if {X} p slots left place slot leaves small read is is_left =
    is_left
    ∙ ap (λ (b : Bool). if b then set slots place None else slots)
    (is ∙ ap (λ (s : Option X). slot_passes p s) (read ∙ get_or_default slots place slot None small))
