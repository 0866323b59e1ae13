-- `swap_remove`, which moves the last element to the place of the removed one, leaves a permutation of what `remove` leaves.
use Rattle.std.specs.Prelude.{◌≡◌, ℕ, ◌<◌, ◌-◌, Bool, List, [], ◌∷◌, ◌++◌, Option, Some, None, length, position, remove, swap_remove, take}
use Rattle.std.specs.List.Sorted.{IsPermutation}
use Rattle.std.specs.Map.{keys_of, remove_entry}
use Rattle.std.proofs.Common.{cond, get_or, set, suc, zero, refl, sym, ap, subst, ◌∙◌, arith}
use Rattle.std.proofs.Math.Seq.{take-suc}
use Rattle.std.proofs.lemmas.List.{take_all}
use Rattle.std.proofs.lemmas.List.Sorted.{IsPermutation-cons, IsPermutation-refl, IsPermutation-to_front}
use Rattle.std.proofs.lemmas.Map.{NonePasses, none_passes_from_lookup}
use Rattle.indexmap.specs.IndexMap.{swap_remove_entry}
use Rattle.indexmap.proofs.MapLemmas.{Found-position, Missing-position, remove_entry-first, swap_remove_entry-found, swap_remove_entry-missing}

module _ {X : Type 0} where
  behind : (x : X) (xs : List X) (i : ℕ) (d : X) → 0 < length xs → swap_remove (x ∷ xs) (suc i) d ≡ x ∷ swap_remove xs i d
  behind x xs i d some =
      let size : suc (length xs) - 1 ≡ suc (length xs - 1) = omega arith in
      ap (λ n. take n (x ∷ set xs i (get_or (x ∷ xs) n d))) size

  first : (x y : X) (ys : List X) (d : X) → swap_remove (x ∷ y ∷ ys) 0 d ≡ get_or (y ∷ ys) (length ys) d ∷ take (length ys) (y ∷ ys)
  first x y ys d =
      let size : suc (suc (length ys)) - 1 ≡ suc (length ys) = omega arith in
      ap (λ n. take n (get_or (x ∷ y ∷ ys) n d ∷ y ∷ ys)) size

  split_last : (x : X) (xs : List X) (d : X) → x ∷ xs ≡ take (length xs) (x ∷ xs) ++ get_or (x ∷ xs) (length xs) d ∷ []
  split_last x xs d = sym (take_all (suc (length xs)) (x ∷ xs) (omega arith)) ∙ take-suc (x ∷ xs) (length xs) d (omega arith)

  moved : (xs : List X) (i : ℕ) (d : X) → i < length xs → IsPermutation (remove xs i) (swap_remove xs i d)
  moved [] i d below = absurd (omega (arith, below))
  moved (x ∷ []) zero d below = IsPermutation-refl []
  moved (x ∷ y ∷ ys) zero d below =
      subst (IsPermutation (y ∷ ys)) (sym (first x y ys d))
      (subst (λ (zs : List X). IsPermutation zs (get_or (y ∷ ys) (length ys) d ∷ take (length ys) (y ∷ ys))) (sym (split_last y ys d))
      (IsPermutation-to_front (take (length ys) (y ∷ ys)) (get_or (y ∷ ys) (length ys) d)))
  moved (x ∷ []) (suc i) d below = absurd (omega (arith, below))
  moved (x ∷ y ∷ ys) (suc i) d below =
      subst (IsPermutation (x ∷ remove (y ∷ ys) i)) (sym (behind x (y ∷ ys) i d (omega arith)))
      (IsPermutation-cons x _ _ (moved (y ∷ ys) i d (omega (arith, below))))

module _ {K V : Type 0} (test : K → Bool) where
  none_gone : (es : List (K × V)) → NonePasses test es → remove_entry test es ≡ es
  none_gone [] none = refl
  none_gone (e ∷ es) none = ap (λ b. cond b es (e ∷ remove_entry test es)) none.0 ∙ ap (λ (fs : List (K × V)). e ∷ fs) (none_gone es none.1)

  pub swapped : (es : List (K × V)) → IsPermutation (remove_entry test es) (swap_remove_entry test es)
  swapped [] = IsPermutation-refl []
  swapped (e ∷ es) = by (position test (keys_of (e ∷ es))) refl
    where
      by : (o : Option ℕ) → position test (keys_of (e ∷ es)) ≡ o → IsPermutation (remove_entry test (e ∷ es)) (swap_remove_entry test (e ∷ es))
      by None at =
          let none = none_gone (e ∷ es) (none_passes_from_lookup test (e ∷ es) (Missing-position test (e ∷ es) at).value) in
          rw (none, swap_remove_entry-missing test (e ∷ es) at) (IsPermutation-refl (e ∷ es))
      by (Some i) at =
          let found = Found-position test (e ∷ es) i at in
          rw (remove_entry-first test (e ∷ es) i found.first, swap_remove_entry-found test (e ∷ es) i e at) (moved (e ∷ es) i e found.within)
