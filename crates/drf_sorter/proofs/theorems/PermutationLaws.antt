-- Permutations of lists: what holds of the elements that pass a test, and of each element.
use Rattle.std.proofs.Common.{ℕ, zero, suc, ◌<◌, Bool, List, [], ◌∷◌, filter, length, get_or, set, swap, arith, inl, inr}
use Rattle.std.specs.List.{AllByRecursion}
use Rattle.std.specs.List.Sorted.{IsPermutation}
use Rattle.std.proofs.lemmas.Bool.{cases_Bool}
use Rattle.std.proofs.lemmas.List.Elements.{All-from_recursion, recursion_from_All}
use Rattle.std.proofs.lemmas.List.Sorted.{All-permutation, IsPermutation-refl, IsPermutation-keeps, IsPermutation-cons, IsPermutation-middle, IsPermutation-trans}

-- a relation holds of a list and each permutation of it, if it is reflexive and transitive and holds after an exchange of the first two
-- elements
module _ {X : Type 0} (R : List X → List X → Type 0) (same : (xs : List X) → R xs xs)
    (skip : (x : X) (xs ys : List X) → R xs ys → R (x ∷ xs) (x ∷ ys))
    (turn : (x y : X) (xs : List X) → R (x ∷ y ∷ xs) (y ∷ x ∷ xs))
    (chain : (xs ys zs : List X) → R xs ys → R ys zs → R xs zs) where
  to_head : (l : List X) (j : ℕ) (x d : X) → j < length l → R (x ∷ l) (get_or l j d ∷ set l j x)
  to_head [] j x d h = absurd (omega arith)
  to_head (y ∷ l) zero x d h = turn x y l
  to_head (y ∷ l) (suc j) x d h =
      chain _ _ _ (turn x y l) (chain _ _ _ (skip y _ _ (to_head l j x d (omega arith))) (turn y (get_or l j d) (set l j x)))

  exchanged : (l : List X) (i j : ℕ) (d : X) → i < length l → j < length l → R l (set (set l i (get_or l j d)) j (get_or l i d))
  exchanged [] i j d p q = absurd (omega arith)
  exchanged (x ∷ l) zero zero d p q = same (x ∷ l)
  exchanged (x ∷ l) zero (suc j) d p q = to_head l j x d (omega arith)
  exchanged (x ∷ l) (suc i) zero d p q = to_head l i x d (omega arith)
  exchanged (x ∷ l) (suc i) (suc j) d p q = skip x _ _ (exchanged l i j d (omega arith) (omega arith))

  swapped : (l : List X) (i j : ℕ) → i < length l → j < length l → R l (swap l i j)
  swapped [] i j p q = same []
  swapped (x ∷ l) i j p q = exchanged (x ∷ l) i j x p q

  along : (xs ys : List X) → IsPermutation xs ys → R xs ys
  along xs = IsPermutation-keeps xs (R xs) (same xs) (λ l i j p q h. chain xs l _ h (swapped l i j p q))

-- the elements that pass a test are a permutation, too
module _ {X : Type 0} (p : X → Bool) where
  abbrev Kept : List X → List X → Type 0
  Kept xs ys = IsPermutation (filter p xs) (filter p ys)

  kept_under : (x : X) (xs ys : List X) → Kept xs ys → Kept (x ∷ xs) (x ∷ ys)
  kept_under x xs ys h = elim (cases_Bool (p x)) [
    | inl stays ↦ rw stays (IsPermutation-cons x (filter p xs) (filter p ys) h)
    | inr goes ↦ rw goes h
  ]

  kept_turned : (x y : X) (xs : List X) → Kept (x ∷ y ∷ xs) (y ∷ x ∷ xs)
  kept_turned x y xs = elim (cases_Bool (p x)) [
    | inl stays ↦ elim (cases_Bool (p y)) [
      | inl too ↦ rw (stays, too) (IsPermutation-middle (x ∷ []) y (filter p xs))
      | inr goes ↦ rw (stays, goes) (IsPermutation-refl (x ∷ filter p xs))
    ]
    | inr goes ↦ rw goes (IsPermutation-refl (filter p (y ∷ xs)))
  ]

  pub IsPermutation-filter : (xs ys : List X) → IsPermutation xs ys → IsPermutation (filter p xs) (filter p ys)
  IsPermutation-filter =
      along Kept (λ xs. IsPermutation-refl (filter p xs)) kept_under kept_turned
      (λ xs ys zs. IsPermutation-trans (filter p xs) (filter p ys) (filter p zs))

-- what holds of each element holds of each element of a permutation
pub each_permutation : {X : Type 0} (P : X → Type 0) (xs ys : List X) → IsPermutation xs ys → AllByRecursion P xs → AllByRecursion P ys
each_permutation P xs ys moved all = recursion_from_All P ys (All-permutation P xs ys moved (All-from_recursion P xs all))
