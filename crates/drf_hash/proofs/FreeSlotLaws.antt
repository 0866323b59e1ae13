-- Lemmas on counting and removing free slots.
use Rattle.std.proofs.Common.{◌≡◌, ◌+◌, ◌<◌, ◌≤◌, ℕ, zero, suc, Bool, true, false, inl, inr, refl, List, [], ◌∷◌, ◌++◌, Option, None, Some, is_some, map, filter, length, get_or, take, slice_get, ap, ◌∙◌, sym, subst, arith, length-append}
use Rattle.std.specs.List.{IsDistinct}
use Rattle.std.specs.Map.{lookup, values_of}
use Rattle.std.specs.Option.{option_map}
use Rattle.std.proofs.lemmas.Bool.{cases_Bool}
use Rattle.std.proofs.lemmas.List.{take_more}
use Rattle.std.proofs.lemmas.List.Elements.{filter_map-append}
use Rattle.indexmap.specs.IndexMap.{set_value_at}
use Rattle.drf_hash.specs.Slots.{filled, ranks_of, slot_of, IsRegistry}

module _ {X : Type 0} where
  -- ---- a prefix with one more slot

  pub filled-more : (slots : List (Option X)) (i : ℕ) (slot : Option X) → i < length slots → slot ≡ get_or slots i slot
      → filled (take (i + 1) slots) ≡ filled (take i slots) ++ filled (slot ∷ [])
  filled-more slots i slot below read =
      ap (λ (ss : List (Option X)). filled ss) (take_more slots i slot below ∙ ap (λ (s : Option X). take i slots ++ s ∷ []) (sym read))
      ∙ filter_map-append (λ s. s) (take i slots) (slot ∷ [])

  pub counted-some : (slots : List (Option X)) (i : ℕ) (slot : Option X) → i < length slots → slot ≡ get_or slots i slot → is_some slot ≡ true
      → length (filled (take (i + 1) slots)) ≡ length (filled (take i slots)) + 1
  counted-some slots i slot below read is =
      ap length (filled-more slots i slot below read) ∙ length-append (filled (take i slots)) (filled (slot ∷ []))
      ∙ ap (λ (n : ℕ). length (filled (take i slots)) + n) (by slot is)
    where
      by : (slot : Option X) → is_some slot ≡ true → length (filled (slot ∷ [])) ≡ 1
      by None is = cc
      by (Some e) is = refl

  pub counted-none : (slots : List (Option X)) (i : ℕ) (slot : Option X) → i < length slots → slot ≡ get_or slots i slot → is_some slot ≡ false
      → length (filled (take (i + 1) slots)) ≡ length (filled (take i slots))
  counted-none slots i slot below read is =
      let none : length (filled (slot ∷ [])) ≡ 0 = by slot is in
      let all = ap length (filled-more slots i slot below read) ∙ length-append (filled (take i slots)) (filled (slot ∷ [])) in
      omega (arith, all, none)
    where
      by : (slot : Option X) → is_some slot ≡ false → length (filled (slot ∷ [])) ≡ 0
      by None is = refl
      by (Some e) is = cc

  -- ---- ranks are computed slot by slot

  pub length-ranks : (before : ℕ) (slots : List (Option X)) → length (ranks_of before slots) ≡ length slots
  length-ranks before [] = refl
  length-ranks before (None ∷ slots) =
      let later = length-ranks before slots in
      omega (arith, later)
  length-ranks before (Some e ∷ slots) =
      let later = length-ranks (suc before) slots in
      omega (arith, later)

  ranks-more : (before : ℕ) (slots : List (Option X)) (slot : Option X)
      → ranks_of before (slots ++ slot ∷ []) ≡ ranks_of before slots ++ (before + length (filled slots)) ∷ []
  ranks-more before [] None =
      let same : before ≡ before + 0 = omega arith in
      ap (λ (k : ℕ). k ∷ []) same
  ranks-more before [] (Some e) =
      let same : before ≡ before + 0 = omega arith in
      ap (λ (k : ℕ). k ∷ []) same
  ranks-more before (None ∷ slots) slot = ap (λ (ks : List ℕ). before ∷ ks) (ranks-more before slots slot)
  ranks-more before (Some e ∷ slots) slot =
      let same : suc before + length (filled slots) ≡ before + suc (length (filled slots)) = omega arith in
      ap (λ (ks : List ℕ). before ∷ ks) (ranks-more (suc before) slots slot ∙ ap (λ (k : ℕ). ranks_of (suc before) slots ++ k ∷ []) same)

  pub ranks-next : (slots : List (Option X)) (i : ℕ) (slot : Option X) (count : ℕ) → i < length slots → slot ≡ get_or slots i slot
      → count ≡ length (filled (take i slots)) → ranks_of 0 (take i slots) ++ count ∷ [] ≡ ranks_of 0 (take (i + 1) slots)
  ranks-next slots i slot count below read is =
      let same : count ≡ 0 + length (filled (take i slots)) = omega (arith, is) in
      ap (λ (k : ℕ). ranks_of 0 (take i slots) ++ k ∷ []) same
      ∙ sym (ranks-more 0 (take i slots) slot)
      ∙ ap (ranks_of 0) (sym (take_more slots i slot below ∙ ap (λ (s : Option X). take i slots ++ s ∷ []) (sym read)))

  -- ---- removing the free slots

  pub filled-all : (xs : List X) → filled (map (λ x. Some x) xs) ≡ xs
  filled-all [] = refl
  filled-all (x ∷ xs) = ap (λ (ys : List X). x ∷ ys) (filled-all xs)

  pub keep-some : (slots : List (Option X)) → filter (λ s. is_some s) slots ≡ map (λ x. Some x) (filled slots)
  keep-some [] = refl
  keep-some (None ∷ slots) = keep-some slots
  keep-some (Some e ∷ slots) = ap (λ (ss : List (Option X)). Some e ∷ ss) (keep-some slots)

-- the same for slots whose values are mapped by a function
module _ {X Y : Type 0} (see : X → Y) where
  pub ranks-seen : (before : ℕ) (slots : List (Option X)) → ranks_of before (map (option_map see) slots) ≡ ranks_of before slots
  ranks-seen before [] = refl
  ranks-seen before (None ∷ slots) = ap (λ (ks : List ℕ). before ∷ ks) (ranks-seen before slots)
  ranks-seen before (Some x ∷ slots) = ap (λ (ks : List ℕ). before ∷ ks) (ranks-seen (suc before) slots)

  pub closed-seen : (slots : List (Option X)) → map (option_map see) (map (λ x. Some x) (filled slots)) ≡ map (λ y. Some y) (filled (map (option_map see) slots))
  closed-seen [] = refl
  closed-seen (None ∷ slots) = closed-seen slots
  closed-seen (Some x ∷ slots) = ap (λ (ys : List (Option Y)). Some (see x) ∷ ys) (closed-seen slots)

module _ {K : Type 0} (f : ℕ → ℕ) where
  lookup-values : (test : K → Bool) (es : List (K × ℕ)) → lookup test (map (λ e. (e.0, f e.1)) es) ≡ option_map f (lookup test es)
  lookup-values test [] = refl
  lookup-values test (e ∷ es) = elim (cases_Bool (test e.0)) [
    | inl here ↦ rw here refl
    | inr past ↦ rw past (lookup-values test es)
  ]

  -- ---- slot numbers are replaced one by one

  -- the entries, with the numbers of the first ones replaced
  abbrev pub moved_first : ℕ → List (K × ℕ) → List (K × ℕ)
  moved_first zero es = es
  moved_first (suc k) [] = []
  moved_first (suc k) (e ∷ es) = (e.0, f e.1) ∷ moved_first k es

  moved-next : (k : ℕ) (es : List (K × ℕ)) (v : ℕ) → slice_get (values_of (moved_first k es)) k ≡ Some v
      → set_value_at (moved_first k es) k (f v) ≡ moved_first (suc k) es
  moved-next zero [] v at = cc
  moved-next zero (e ∷ es) v at =
      let same : e.1 ≡ v = cc in
      λ j. (e.0, f (sym same j)) ∷ es
  moved-next (suc k) [] v at = refl
  moved-next (suc k) (e ∷ es) v at = ap (λ (fs : List (K × ℕ)). (e.0, f e.1) ∷ fs) (moved-next k es v at)

  pub moved-more : (k : ℕ) (es new : List (K × ℕ)) (v : ℕ) → new ≡ moved_first k es → slice_get (values_of new) k ≡ Some v
      → set_value_at new k (f v) ≡ moved_first (k + 1) es
  moved-more k es new v is at =
      let next : suc k ≡ k + 1 = omega arith in
      ap (λ (fs : List (K × ℕ)). set_value_at fs k (f v)) is
      ∙ moved-next k es v (sym (ap (λ (fs : List (K × ℕ)). slice_get (values_of fs) k) is) ∙ at)
      ∙ ap (λ (n : ℕ). moved_first n es) next

  pub length-moved : (k : ℕ) (es : List (K × ℕ)) → length (moved_first k es) ≡ length es
  length-moved zero es = refl
  length-moved (suc k) [] = refl
  length-moved (suc k) (e ∷ es) = omega (arith, length-moved k es)

  pub moved-all : (k : ℕ) (es : List (K × ℕ)) → length es ≤ k → moved_first k es ≡ map (λ e. (e.0, f e.1)) es
  moved-all zero [] all = refl
  moved-all zero (e ∷ es) all = absurd (omega (arith, all))
  moved-all (suc k) [] all = refl
  moved-all (suc k) (e ∷ es) all = ap (λ (fs : List (K × ℕ)). (e.0, f e.1) ∷ fs) (moved-all k es (omega (arith, all)))

-- ---- each value is found in its new slot

module _ {K X : Type 0} (same : K → K → Bool) (key : X → K) where
  ranked_slot : (k : K) (before : ℕ) (slots : List (Option X))
      → option_map (λ i. before + i) (slot_of same key k (map (λ x. Some x) (filled slots)))
      ≡ option_map (λ i. get_or (ranks_of before slots) i 0) (slot_of same key k slots)
  ranked_slot k before [] = refl
  ranked_slot k before (None ∷ slots) = ranked_slot k before slots ∙ by (slot_of same key k slots)
    where
      by : (o : Option ℕ) → option_map (λ i. get_or (ranks_of before slots) i 0) o
          ≡ option_map (λ i. get_or (before ∷ ranks_of before slots) i 0) (option_map (λ j. suc j) o)
      by None = refl
      by (Some i) = refl
  ranked_slot k before (Some x ∷ slots) = elim (cases_Bool (same k (key x))) [
    | inl hit ↦
        let none : before + 0 ≡ before = omega arith in
        rw hit (ap (λ (n : ℕ). Some n) none)
    | inr miss ↦ rw miss (
        first (slot_of same key k (map (λ x. Some x) (filled slots)))
        ∙ ranked_slot k (suc before) slots
        ∙ by (slot_of same key k slots))
  ]
    where
      first : (o : Option ℕ) → option_map (λ i. before + i) (option_map (λ j. suc j) o) ≡ option_map (λ i. suc before + i) o
      first None = refl
      first (Some i) =
          let next : before + suc i ≡ suc before + i = omega arith in
          ap (λ (n : ℕ). Some n) next

      by : (o : Option ℕ) → option_map (λ i. get_or (ranks_of (suc before) slots) i 0) o
          ≡ option_map (λ i. get_or (before ∷ ranks_of (suc before) slots) i 0) (option_map (λ j. suc j) o)
      by None = refl
      by (Some i) = refl

  pub registry-closed : (slots : List (Option X)) (places : List (K × ℕ)) (live : ℕ) → IsRegistry same key slots places live
      → IsRegistry same key (map (λ x. Some x) (filled slots)) (map (λ e. (e.0, get_or (ranks_of 0 slots) e.1 0)) places) live
  registry-closed slots places live is =
      let rank : ℕ → ℕ = λ i. get_or (ranks_of 0 slots) i 0 in
      record {
        found = λ k.
            lookup-values rank (same k) places
            ∙ ap (option_map rank) (is.found k)
            ∙ sym (ranked_slot k 0 slots)
            ∙ by (slot_of same key k (map (λ x. Some x) (filled slots)));
        apart = subst (λ (xs : List X). IsDistinct same (map key xs)) (sym (filled-all (filled slots))) is.apart;
        live = is.live ∙ sym (ap length (filled-all (filled slots)));
      }
    where
      by : (o : Option ℕ) → option_map (λ i. 0 + i) o ≡ o
      by None = refl
      by (Some i) =
          let none : 0 + i ≡ i = omega arith in
          ap (λ (n : ℕ). Some n) none
