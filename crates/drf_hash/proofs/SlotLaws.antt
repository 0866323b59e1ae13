-- Lemmas about `specs/SlotLaws.antt`.
use Rattle.std.proofs.Common.{◌≡◌, ◌+◌, ◌<◌, ◌≤◌, ◌||◌, ℕ, zero, suc, Bool, true, false, cond, not, inl, inr, refl, List, [], ◌∷◌, ◌++◌, Option, None, Some, is_some, map, filter, length, get_or, set, take, ap, ◌∙◌, sym, subst, arith, if◌then◌else◌, length-append}
use Rattle.std.specs.Bool.{Decides}
use Rattle.std.specs.Cmp.{IsEquivalence}
use Rattle.std.specs.List.{AllByRecursion, IsDistinct, list_any, sum_by}
use Rattle.std.specs.Map.{lookup}
use Rattle.std.specs.Option.{option_map}
use Rattle.std.proofs.lemmas.Bool.{cases_Bool, false≢true}
use Rattle.std.proofs.lemmas.Bool.Decides.{same_from_decides, Decides-like}
use Rattle.std.proofs.lemmas.List.{get_or_default, map_push}
use Rattle.std.proofs.lemmas.List.Elements.{filter_map-append}
use Rattle.std.proofs.lemmas.List.Sums.{sum_by-cons}
use Rattle.std.proofs.lemmas.Map.Keys.{IsDistinct-cons, IsDistinct-head, IsDistinct-push, IsDistinct-tail}
use Rattle.drf_hash.specs.Slots.{filled, slot_of, IsRegistry}

-- ---- optional numbers that are increased by one

next-some : (o : Option ℕ) (i : ℕ) → option_map (λ j. suc j) o ≡ Some (suc i) → o ≡ Some i
next-some None i is = cc
next-some (Some j) i is =
    let same : suc j ≡ suc i = cc in
    let e : j ≡ i = omega (arith, same) in
    ap (λ (k : ℕ). Some k) e

next-first : (o : Option ℕ) → option_map (λ j. suc j) o ≡ Some zero → ⊥
next-first None is = cc
next-first (Some j) is =
    let same : suc j ≡ zero = cc in
    omega (arith, same)

next-none : (o : Option ℕ) → option_map (λ j. suc j) o ≡ None → o ≡ None
next-none None is = refl
next-none (Some j) is = cc

is_some-next : (o : Option ℕ) → is_some (option_map (λ j. suc j) o) ≡ is_some o
is_some-next None = refl
is_some-next (Some j) = refl

next-cond : (b : Bool) (a o : Option ℕ) → option_map (λ j. suc j) (cond b a o) ≡ cond b (option_map (λ j. suc j) a) (option_map (λ j. suc j) o)
next-cond true a o = refl
next-cond false a o = refl

-- the two results of a test
module _ {Y : Type 0} (b : Bool) (first : Option Y) (later : Option Y) where
  taken : b ≡ true → (if b then first else later) ≡ first
  taken is = ap (λ (c : Bool). if c then first else later) is

  passed : b ≡ false → (if b then first else later) ≡ later
  passed is = ap (λ (c : Bool). if c then first else later) is

-- ---- slots without keys

module _ {X : Type 0} where
  pub filled-short : (slots : List (Option X)) → length (filled slots) ≤ length slots
  filled-short [] = omega arith
  filled-short (None ∷ slots) = omega (arith, filled-short slots)
  filled-short (Some x ∷ slots) = omega (arith, filled-short slots)

  pub filled-push : (slots : List (Option X)) (x : X) → filled (slots ++ Some x ∷ []) ≡ filled slots ++ x ∷ []
  filled-push slots x = filter_map-append (λ s. s) slots (Some x ∷ [])

  -- reading a slot in use returns its value
  pub read_is : (slots : List (Option X)) (i : ℕ) (s : Option X) (x : X) → i < length slots → s ≡ get_or slots i s → get_or slots i None ≡ Some x
      → s ≡ Some x
  read_is slots i s x below read there = read ∙ get_or_default slots i s None below ∙ there

  pub length-free_slot : (slots : List (Option X)) (i : ℕ) (x : X) → get_or slots i None ≡ Some x → length (filled (set slots i None)) + 1 ≡ length (filled slots)
  length-free_slot [] i x at = cc
  length-free_slot (None ∷ slots) zero x at = cc
  length-free_slot (Some y ∷ slots) zero x at = omega arith
  length-free_slot (None ∷ slots) (suc i) x at = length-free_slot slots i x at
  length-free_slot (Some y ∷ slots) (suc i) x at = omega (arith, length-free_slot slots i x at)

  length-set : (slots : List (Option X)) (i : ℕ) (x y : X) → get_or slots i None ≡ Some x → length (filled (set slots i (Some y))) ≡ length (filled slots)
  length-set [] i x y at = cc
  length-set (None ∷ slots) zero x y at = cc
  length-set (Some z ∷ slots) zero x y at = refl
  length-set (None ∷ slots) (suc i) x y at = length-set slots i x y at
  length-set (Some z ∷ slots) (suc i) x y at = omega (arith, length-set slots i x y at)

  -- what holds for all values holds for the value of a slot
  pub each_slot : (P : X → Type 0) (slots : List (Option X)) (i : ℕ) (x : X) → get_or slots i None ≡ Some x → AllByRecursion P (filled slots) → P x
  each_slot P [] i x at all = absurd cc
  each_slot P (None ∷ slots) zero x at all = absurd cc
  each_slot P (Some y ∷ slots) zero x at all =
      let same : y ≡ x = cc in
      subst P same all.0
  each_slot P (None ∷ slots) (suc i) x at all = each_slot P slots i x at all
  each_slot P (Some y ∷ slots) (suc i) x at all = each_slot P slots i x at all.1

  -- a value that is stored in a slot is at most the sum over all slots
  pub slot_in_sum : (f : X → ℕ) (slots : List (Option X)) (i : ℕ) (x y : X) → get_or slots i None ≡ Some x
      → f y ≤ sum_by f (filled (set slots i (Some y)))
  slot_in_sum f [] i x y at = absurd cc
  slot_in_sum f (None ∷ slots) zero x y at = absurd cc
  slot_in_sum f (Some z ∷ slots) zero x y at = omega (arith, sum_by-cons f y (filled slots))
  slot_in_sum f (None ∷ slots) (suc i) x y at = slot_in_sum f slots i x y at
  slot_in_sum f (Some z ∷ slots) (suc i) x y at =
      omega (arith, sum_by-cons f z (filled (set slots i (Some y))), slot_in_sum f slots i x y at)

-- ---- finding values by key

-- the value of the slot has the key
pub record IsIn {K X : Type 0} (key : X → K) (k : K) (slots : List (Option X)) (i : ℕ) : Type 0 where
  pub entry : X
  pub there : get_or slots i None ≡ Some entry
  pub named : key entry ≡ k
  pub below : i < length slots

module _ {K X : Type 0} (same : K → K → Bool) (decides : (a b : K) → Decides (same a b) (a ≡ b)) (key : X → K) where
  swap : (a b : K) → same a b ≡ same b a
  swap a b = same_from_decides (same a b) (same b a) (decides a b) (Decides-like (same b a) sym sym (decides b a))

  equivalence : IsEquivalence same
  equivalence = record {
    refl = λ a. (decides a a).1 refl;
    symm = swap;
    congr = λ a b c is. ap (λ (k : K). same k c) ((decides a b).0 is);
  }

  pub slot_found : (k : K) (slots : List (Option X)) (i : ℕ) → slot_of same key k slots ≡ Some i → IsIn key k slots i
  slot_found k [] i is = absurd cc
  slot_found k (None ∷ slots) zero is = absurd (next-first (slot_of same key k slots) is)
  slot_found k (None ∷ slots) (suc i) is =
      let later = slot_found k slots i (next-some (slot_of same key k slots) i is) in
      record { entry = later.entry; there = later.there; named = later.named; below = omega (arith, later.below) }
  slot_found k (Some x ∷ slots) i is = elim (cases_Bool (same k (key x))) [
    | inl hit ↦ here i (sym (taken (same k (key x)) (Some zero) (option_map (λ j. suc j) (slot_of same key k slots)) hit) ∙ is) hit
    | inr miss ↦
        there (λ j at. slot_found k slots j at) i
        (sym (passed (same k (key x)) (Some zero) (option_map (λ j. suc j) (slot_of same key k slots)) miss) ∙ is)
  ]
    where
      here : (i : ℕ) → ◌≡◌ {A = Option ℕ} (Some zero) (Some i) → same k (key x) ≡ true → IsIn key k (Some x ∷ slots) i
      here zero is hit = record { entry = x; there = refl; named = sym ((decides k (key x)).0 hit); below = omega arith }
      here (suc i) is hit =
          let wrong : zero ≡ suc i = cc in
          absurd (omega (arith, wrong))

      there : ((j : ℕ) → slot_of same key k slots ≡ Some j → IsIn key k slots j) → (i : ℕ)
          → option_map (λ j. suc j) (slot_of same key k slots) ≡ Some i → IsIn key k (Some x ∷ slots) i
      there found zero is = absurd (next-first (slot_of same key k slots) is)
      there found (suc i) is =
          let later = found i (next-some (slot_of same key k slots) i is) in
          record { entry = later.entry; there = later.there; named = later.named; below = omega (arith, later.below) }

  -- a key is found exactly if a value has it
  pub slot-known : (k : K) (slots : List (Option X)) → is_some (slot_of same key k slots) ≡ list_any (λ x. same (key x) k) (filled slots)
  slot-known k [] = refl
  slot-known k (None ∷ slots) = is_some-next (slot_of same key k slots) ∙ slot-known k slots
  slot-known k (Some x ∷ slots) = elim (cases_Bool (same k (key x))) [
    | inl hit ↦ rw (hit, swap (key x) k ∙ hit) refl
    | inr miss ↦ rw (miss, swap (key x) k ∙ miss) (is_some-next (slot_of same key k slots) ∙ slot-known k slots)
  ]

  pub slot_new : (k : K) (slots : List (Option X)) → list_any (λ x. same (key x) k) (filled slots) ≡ false → slot_of same key k slots ≡ None
  slot_new k slots new = by (slot_of same key k slots) (slot-known k slots ∙ new)
    where
      by : (o : Option ℕ) → is_some o ≡ false → o ≡ None
      by None is = refl
      by (Some i) is = cc

  -- a key that a value has is found
  pub slot_missed : (k : K) (slots : List (Option X)) → list_any (λ x. same (key x) k) (filled slots) ≡ true → slot_of same key k slots ≡ None → ⊥
  slot_missed k slots known none = false≢true (sym (ap (λ (o : Option ℕ). is_some o) none) ∙ slot-known k slots ∙ known)

  any_key : (k : K) (xs : List X) → list_any (same k) (map key xs) ≡ list_any (λ x. same (key x) k) xs
  any_key k [] = refl
  any_key k (x ∷ xs) = λ i. swap k (key x) i || any_key k xs i

  -- no earlier slot has the key of a slot's value
  pub new_to_come : (slots : List (Option X)) (i : ℕ) (x : X) → IsDistinct same (map key (filled slots)) → get_or slots i None ≡ Some x
      → list_any (λ y. same (key y) (key x)) (filled (take i slots)) ≡ false
  new_to_come slots zero x apart at = refl
  new_to_come [] (suc i) x apart at = refl
  new_to_come (None ∷ slots) (suc i) x apart at = new_to_come slots i x apart at
  new_to_come (Some y ∷ slots) (suc i) x apart at =
      let all = IsDistinct-head same (key y) (map key (filled slots)) apart in
      let other : same (key y) (key x) ≡ false = each_key (λ k. same (key y) k ≡ false) slots i x at all in
      let later = new_to_come slots i x (IsDistinct-tail same (key y) (map key (filled slots)) apart) at in
      λ j. other j || later j
    where
      each_key : (P : K → Type 0) (slots : List (Option X)) (i : ℕ) (x : X) → get_or slots i None ≡ Some x
          → AllByRecursion P (map key (filled slots)) → P (key x)
      each_key P [] i x at all = absurd cc
      each_key P (None ∷ slots) zero x at all = absurd cc
      each_key P (Some y ∷ slots) zero x at all =
          let same : y ≡ x = cc in
          subst (λ (z : X). P (key z)) same all.0
      each_key P (None ∷ slots) (suc i) x at all = each_key P slots i x at all
      each_key P (Some y ∷ slots) (suc i) x at all = each_key P slots i x at all.1

  -- ---- a value is changed and keeps its key

  slot_of-set : (k : K) (slots : List (Option X)) (i : ℕ) (x y : X) → get_or slots i None ≡ Some x → key y ≡ key x
      → slot_of same key k (set slots i (Some y)) ≡ slot_of same key k slots
  slot_of-set k [] i x y at keeps = cc
  slot_of-set k (None ∷ slots) zero x y at keeps = cc
  slot_of-set k (Some z ∷ slots) zero x y at keeps =
      let was : z ≡ x = cc in
      λ j. if same k ((keeps ∙ ap key (sym was)) j) then Some zero else option_map (λ i. suc i) (slot_of same key k slots)
  slot_of-set k (None ∷ slots) (suc i) x y at keeps = ap (option_map (λ j. suc j)) (slot_of-set k slots i x y at keeps)
  slot_of-set k (Some z ∷ slots) (suc i) x y at keeps =
      ap (λ (o : Option ℕ). if same k (key z) then Some zero else option_map (λ j. suc j) o) (slot_of-set k slots i x y at keeps)

  keys-set : (slots : List (Option X)) (i : ℕ) (x y : X) → get_or slots i None ≡ Some x → key y ≡ key x
      → map key (filled (set slots i (Some y))) ≡ map key (filled slots)
  keys-set [] i x y at keeps = cc
  keys-set (None ∷ slots) zero x y at keeps = cc
  keys-set (Some z ∷ slots) zero x y at keeps =
      let was : z ≡ x = cc in
      λ j. (keeps ∙ ap key (sym was)) j ∷ map key (filled slots)
  keys-set (None ∷ slots) (suc i) x y at keeps = keys-set slots i x y at keeps
  keys-set (Some z ∷ slots) (suc i) x y at keeps = ap (λ (ks : List K). key z ∷ ks) (keys-set slots i x y at keeps)

  pub registry-set : (slots : List (Option X)) (places : List (K × ℕ)) (live i : ℕ) (x y : X)
      → IsRegistry same key slots places live → get_or slots i None ≡ Some x → key y ≡ key x → IsRegistry same key (set slots i (Some y)) places live
  registry-set slots places live i x y is at keeps = record {
    found = λ k. is.found k ∙ sym (slot_of-set k slots i x y at keeps);
    apart = subst (IsDistinct same) (sym (keys-set slots i x y at keeps)) is.apart;
    live = is.live ∙ sym (length-set slots i x y at);
  }

  -- a change of the values with a key does nothing if no value has the key
  others_stay : (k : K) (change : X → X) (xs : List X) → AllByRecursion (λ l. same k l ≡ false) (map key xs)
      → xs ≡ map (λ x. if same (key x) k then change x else x) xs
  others_stay k change [] all = refl
  others_stay k change (x ∷ xs) all = rw (swap (key x) k ∙ all.0) (ap (λ (ys : List X). x ∷ ys) (others_stay k change xs all.1))

  pub filled-changed : (k : K) (change : X → X) (slots : List (Option X)) (i : ℕ) (x : X) → IsDistinct same (map key (filled slots))
      → slot_of same key k slots ≡ Some i → get_or slots i None ≡ Some x
      → filled (set slots i (Some (change x))) ≡ map (λ y. if same (key y) k then change y else y) (filled slots)
  filled-changed k change [] i x apart is at = absurd cc
  filled-changed k change (None ∷ slots) zero x apart is at = absurd (next-first (slot_of same key k slots) is)
  filled-changed k change (None ∷ slots) (suc i) x apart is at =
      filled-changed k change slots i x apart (next-some (slot_of same key k slots) i is) at
  filled-changed k change (Some y ∷ slots) i x apart is at = elim (cases_Bool (same k (key y))) [
    | inl hit ↦ here i (sym (taken (same k (key y)) (Some zero) (option_map (λ j. suc j) (slot_of same key k slots)) hit) ∙ is) at hit
    | inr miss ↦
        there (λ j found read. filled-changed k change slots j x (IsDistinct-tail same (key y) (map key (filled slots)) apart) found read) i
        (sym (passed (same k (key y)) (Some zero) (option_map (λ j. suc j) (slot_of same key k slots)) miss) ∙ is) at miss
  ]
    where
      here : (i : ℕ) → ◌≡◌ {A = Option ℕ} (Some zero) (Some i) → get_or (Some y ∷ slots) i None ≡ Some x → same k (key y) ≡ true
          → filled (set (Some y ∷ slots) i (Some (change x))) ≡ map (λ z. if same (key z) k then change z else z) (y ∷ filled slots)
      here zero is at hit =
          let was : y ≡ x = cc in
          let mine : k ≡ key y = (decides k (key y)).0 hit in
          let all = subst (λ (l : K). AllByRecursion (λ m. same l m ≡ false) (map key (filled slots))) (sym mine)
          (IsDistinct-head same (key y) (map key (filled slots)) apart) in
          rw (swap (key y) k ∙ hit) (λ j. change (sym was j) ∷ others_stay k change (filled slots) all j)
      here (suc i) is at hit =
          let wrong : zero ≡ suc i = cc in
          absurd (omega (arith, wrong))

      there : ((j : ℕ) → slot_of same key k slots ≡ Some j → get_or slots j None ≡ Some x
          → filled (set slots j (Some (change x))) ≡ map (λ z. if same (key z) k then change z else z) (filled slots)) → (i : ℕ)
          → option_map (λ j. suc j) (slot_of same key k slots) ≡ Some i → get_or (Some y ∷ slots) i None ≡ Some x → same k (key y) ≡ false
          → filled (set (Some y ∷ slots) i (Some (change x))) ≡ map (λ z. if same (key z) k then change z else z) (y ∷ filled slots)
      there later zero is at miss = absurd (next-first (slot_of same key k slots) is)
      there later (suc i) is at miss =
          rw (swap (key y) k ∙ miss) (ap (λ (zs : List X). y ∷ zs) (later i (next-some (slot_of same key k slots) i is) at))

  -- ---- a value is added

  slot_of-push : (l : K) (x : X) (slots : List (Option X)) → slot_of same key (key x) slots ≡ None
      → slot_of same key l (slots ++ Some x ∷ []) ≡ cond (same (key x) l) (Some (length slots)) (slot_of same key l slots)
  slot_of-push l x [] new = ap (λ (b : Bool). if b then Some zero else None) (swap l (key x))
  slot_of-push l x (None ∷ slots) new =
      ap (option_map (λ j. suc j)) (slot_of-push l x slots (next-none (slot_of same key (key x) slots) new))
      ∙ next-cond (same (key x) l) (Some (length slots)) (slot_of same key l slots)
  slot_of-push l x (Some y ∷ slots) new = elim (cases_Bool (same (key x) (key y))) [
    | inl wrong ↦
        let no : ◌≡◌ {A = Option ℕ} (Some zero) None =
        sym (taken (same (key x) (key y)) (Some zero) (option_map (λ j. suc j) (slot_of same key (key x) slots)) wrong) ∙ new in
        absurd cc
    | inr past ↦
        let later = next-none (slot_of same key (key x) slots)
        (sym (passed (same (key x) (key y)) (Some zero) (option_map (λ j. suc j) (slot_of same key (key x) slots)) past) ∙ new) in
        elim (cases_Bool (same l (key y))) [
          | inl hit ↦
              let mine : key y ≡ l = sym ((decides l (key y)).0 hit) in
              let other : same (key x) l ≡ false = ap (same (key x)) (sym mine) ∙ past in
              rw (hit, other) refl
          | inr miss ↦
              rw miss (ap (option_map (λ j. suc j)) (slot_of-push l x slots later)
              ∙ next-cond (same (key x) l) (Some (length slots)) (slot_of same key l slots))
        ]
  ]

  pub registry-push : (slots : List (Option X)) (places after : List (K × ℕ)) (live : ℕ) (x : X)
      → IsRegistry same key slots places live → list_any (λ y. same (key y) (key x)) (filled slots) ≡ false
      → ((l : K) → lookup (same l) after ≡ cond (same (key x) l) (Some (length slots)) (lookup (same l) places))
      → IsRegistry same key (slots ++ Some x ∷ []) after (live + 1)
  registry-push slots places after live x is new found = record {
    found = λ l. found l ∙ ap (λ (o : Option ℕ). cond (same (key x) l) (Some (length slots)) o) (is.found l)
        ∙ sym (slot_of-push l x slots (slot_new (key x) slots new));
    apart = subst (IsDistinct same) (sym (ap (map key) (filled-push slots x) ∙ map_push key (filled slots) x))
        (IsDistinct-push equivalence (map key (filled slots)) (key x) is.apart (any_key (key x) (filled slots) ∙ new));
    live =
        let many : length (filled (slots ++ Some x ∷ [])) ≡ length (filled slots) + 1 =
        ap length (filled-push slots x) ∙ length-append (filled slots) (x ∷ []) in
        let before = is.live in
        omega (arith, many, before);
  }

  -- ---- a value is removed

  others_left : (k : K) (xs : List X) → AllByRecursion (λ l. same k l ≡ false) (map key xs) → xs ≡ filter (λ x. not (same (key x) k)) xs
  others_left k [] all = refl
  others_left k (x ∷ xs) all = rw (swap (key x) k ∙ all.0) (ap (λ (ys : List X). x ∷ ys) (others_left k xs all.1))

  pub filled-free_slot : (k : K) (slots : List (Option X)) (i : ℕ) → IsDistinct same (map key (filled slots)) → slot_of same key k slots ≡ Some i
      → filled (set slots i None) ≡ filter (λ x. not (same (key x) k)) (filled slots)
  filled-free_slot k [] i apart is = absurd cc
  filled-free_slot k (None ∷ slots) zero apart is = absurd (next-first (slot_of same key k slots) is)
  filled-free_slot k (None ∷ slots) (suc i) apart is = filled-free_slot k slots i apart (next-some (slot_of same key k slots) i is)
  filled-free_slot k (Some x ∷ slots) i apart is = elim (cases_Bool (same k (key x))) [
    | inl hit ↦ here i (sym (taken (same k (key x)) (Some zero) (option_map (λ j. suc j) (slot_of same key k slots)) hit) ∙ is) hit
    | inr miss ↦
        there (λ j at. filled-free_slot k slots j (IsDistinct-tail same (key x) (map key (filled slots)) apart) at) i
        (sym (passed (same k (key x)) (Some zero) (option_map (λ j. suc j) (slot_of same key k slots)) miss) ∙ is) miss
  ]
    where
      here : (i : ℕ) → ◌≡◌ {A = Option ℕ} (Some zero) (Some i) → same k (key x) ≡ true
          → filled (set (Some x ∷ slots) i None) ≡ filter (λ y. not (same (key y) k)) (x ∷ filled slots)
      here zero is hit =
          let all = subst (λ (l : K). AllByRecursion (λ m. same l m ≡ false) (map key (filled slots))) (sym ((decides k (key x)).0 hit))
          (IsDistinct-head same (key x) (map key (filled slots)) apart) in
          rw (swap (key x) k ∙ hit) (others_left k (filled slots) all)
      here (suc i) is hit =
          let wrong : zero ≡ suc i = cc in
          absurd (omega (arith, wrong))

      there : ((j : ℕ) → slot_of same key k slots ≡ Some j → filled (set slots j None) ≡ filter (λ y. not (same (key y) k)) (filled slots)) → (i : ℕ)
          → option_map (λ j. suc j) (slot_of same key k slots) ≡ Some i → same k (key x) ≡ false
          → filled (set (Some x ∷ slots) i None) ≡ filter (λ y. not (same (key y) k)) (x ∷ filled slots)
      there later zero is miss = absurd (next-first (slot_of same key k slots) is)
      there later (suc i) is miss = rw (swap (key x) k ∙ miss) (ap (λ (ys : List X). x ∷ ys) (later i (next-some (slot_of same key k slots) i is)))

  -- a key that no value has is not found
  slot_of-none : (k : K) (slots : List (Option X)) → AllByRecursion (λ l. same k l ≡ false) (map key (filled slots)) → slot_of same key k slots ≡ None
  slot_of-none k [] none = refl
  slot_of-none k (None ∷ slots) none = ap (option_map (λ j. suc j)) (slot_of-none k slots none)
  slot_of-none k (Some x ∷ slots) none =
      passed (same k (key x)) (Some zero) (option_map (λ j. suc j) (slot_of same key k slots)) none.0
      ∙ ap (option_map (λ j. suc j)) (slot_of-none k slots none.1)

  slot_of-free_slot : (l k : K) (slots : List (Option X)) (i : ℕ) → IsDistinct same (map key (filled slots)) → slot_of same key k slots ≡ Some i
      → slot_of same key l (set slots i None) ≡ cond (same k l) None (slot_of same key l slots)
  slot_of-free_slot l k [] i apart is = absurd cc
  slot_of-free_slot l k (None ∷ slots) zero apart is = absurd (next-first (slot_of same key k slots) is)
  slot_of-free_slot l k (None ∷ slots) (suc i) apart is =
      ap (option_map (λ j. suc j)) (slot_of-free_slot l k slots i apart (next-some (slot_of same key k slots) i is))
      ∙ next-cond (same k l) None (slot_of same key l slots)
  slot_of-free_slot l k (Some x ∷ slots) i apart is = elim (cases_Bool (same k (key x))) [
    | inl hit ↦ here i (sym (taken (same k (key x)) (Some zero) (option_map (λ j. suc j) (slot_of same key k slots)) hit) ∙ is) hit
    | inr miss ↦
        there (λ j at. slot_of-free_slot l k slots j (IsDistinct-tail same (key x) (map key (filled slots)) apart) at) i
        (sym (passed (same k (key x)) (Some zero) (option_map (λ j. suc j) (slot_of same key k slots)) miss) ∙ is) miss
  ]
    where
      here : (i : ℕ) → ◌≡◌ {A = Option ℕ} (Some zero) (Some i) → same k (key x) ≡ true
          → slot_of same key l (set (Some x ∷ slots) i None) ≡ cond (same k l) None (slot_of same key l (Some x ∷ slots))
      here zero is hit =
          let mine : k ≡ key x = (decides k (key x)).0 hit in
          elim (cases_Bool (same k l)) [
            | inl its ↦
                let all : key x ≡ l = sym mine ∙ (decides k l).0 its in
                let none = subst (λ (m : K). AllByRecursion (λ n. same m n ≡ false) (map key (filled slots))) all
                (IsDistinct-head same (key x) (map key (filled slots)) apart) in
                rw its (ap (option_map (λ j. suc j)) (slot_of-none l slots none))
            | inr past ↦
                let other : same l (key x) ≡ false = ap (same l) (sym mine) ∙ swap l k ∙ past in
                rw (past, other) refl
          ]
      here (suc i) is hit =
          let wrong : zero ≡ suc i = cc in
          absurd (omega (arith, wrong))

      there : ((j : ℕ) → slot_of same key k slots ≡ Some j → slot_of same key l (set slots j None) ≡ cond (same k l) None (slot_of same key l slots)) → (i : ℕ)
          → option_map (λ j. suc j) (slot_of same key k slots) ≡ Some i → same k (key x) ≡ false
          → slot_of same key l (set (Some x ∷ slots) i None) ≡ cond (same k l) None (slot_of same key l (Some x ∷ slots))
      there later zero is miss = absurd (next-first (slot_of same key k slots) is)
      there later (suc i) is miss = elim (cases_Bool (same l (key x))) [
        | inl hit ↦
            let mine : key x ≡ l = sym ((decides l (key x)).0 hit) in
            let past : same k l ≡ false = ap (same k) (sym mine) ∙ miss in
            rw (hit, past) refl
        | inr past ↦
            rw past (ap (option_map (λ j. suc j)) (later i (next-some (slot_of same key k slots) i is))
            ∙ next-cond (same k l) None (slot_of same key l slots))
      ]

  each-free_slot : (P : K → Type 0) (slots : List (Option X)) (i : ℕ) → AllByRecursion P (map key (filled slots))
      → AllByRecursion P (map key (filled (set slots i None)))
  each-free_slot P [] i all = tt
  each-free_slot P (None ∷ slots) zero all = all
  each-free_slot P (Some x ∷ slots) zero all = all.1
  each-free_slot P (None ∷ slots) (suc i) all = each-free_slot P slots i all
  each-free_slot P (Some x ∷ slots) (suc i) all = (all.0, each-free_slot P slots i all.1)

  apart-free_slot : (slots : List (Option X)) (i : ℕ) → IsDistinct same (map key (filled slots)) → IsDistinct same (map key (filled (set slots i None)))
  apart-free_slot [] i apart = apart
  apart-free_slot (None ∷ slots) zero apart = apart
  apart-free_slot (Some x ∷ slots) zero apart = IsDistinct-tail same (key x) (map key (filled slots)) apart
  apart-free_slot (None ∷ slots) (suc i) apart = apart-free_slot slots i apart
  apart-free_slot (Some x ∷ slots) (suc i) apart =
      IsDistinct-cons same (key x) (map key (filled (set slots i None)))
      (each-free_slot (λ l. same (key x) l ≡ false) slots i (IsDistinct-head same (key x) (map key (filled slots)) apart))
      (apart-free_slot slots i (IsDistinct-tail same (key x) (map key (filled slots)) apart))

  pub live_one : (slots : List (Option X)) (places : List (K × ℕ)) (live i : ℕ) (x : X) → IsRegistry same key slots places live
      → get_or slots i None ≡ Some x → 1 ≤ live
  live_one slots places live i x is at = omega (arith, length-free_slot slots i x at, is.live)

  pub registry-free_slot : (slots : List (Option X)) (places after : List (K × ℕ)) (live less : ℕ) (k : K) (i : ℕ)
      → IsRegistry same key slots places live → slot_of same key k slots ≡ Some i → less + 1 ≡ live
      → ((l : K) → lookup (same l) after ≡ cond (same k l) None (lookup (same l) places))
      → IsRegistry same key (set slots i None) after less
  registry-free_slot slots places after live less k i is at fewer found = record {
    found = λ l. found l ∙ ap (λ (o : Option ℕ). cond (same k l) None o) (is.found l) ∙ sym (slot_of-free_slot l k slots i is.apart at);
    apart = apart-free_slot slots i is.apart;
    live =
        let here = slot_found k slots i at in
        let many = length-free_slot slots i here.entry here.there in
        let before = is.live in
        omega (arith, many, before, fewer);
  }
