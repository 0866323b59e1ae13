-- Sums over the elements that pass a test.
use Rattle.std.proofs.Common.{◌≡◌, ◌<◌, ◌≤◌, ◌+◌, ℕ, Bool, true, false, cond, List, length, take, get_or, sym, ap, ◌∙◌, arith}
use Rattle.std.specs.List.{filter, sum_by}
use Rattle.std.proofs.lemmas.List.{take_all}
use Rattle.std.proofs.lemmas.List.Sums.{sum_by_more, sum_by-take-le, sum_by-le-sum_by}
use Rattle.drf_bundle.proofs.ListLaws.{sum_by-filter, cond_le}

-- f of an element that passes, and 0 otherwise
abbrev pub part_of : {X : Type 0} → (X → Bool) → (X → ℕ) → X → ℕ
part_of p f x = cond (p x) (f x) 0

module _ {X : Type 0} (p : X → Bool) (f : X → ℕ) (xs : List X) (i : ℕ) (x : X) (n : ℕ) (inside : i < length xs)
    (is : x ≡ get_or xs i x) (so_far : n ≡ sum_by (part_of p f) (take i xs)) where
  pub sum_part_more : p x ≡ true → n + f x ≡ sum_by (part_of p f) (take (i + 1) xs)
  sum_part_more passes =
      let more = sum_by_more (part_of p f) xs i x inside in
      let here : part_of p f (get_or xs i x) ≡ f x = rw (← is) (rw passes) in
      omega (arith, so_far, more, here)

  pub sum_part_same : p x ≡ false → n ≡ sum_by (part_of p f) (take (i + 1) xs)
  sum_part_same fails =
      let more = sum_by_more (part_of p f) xs i x inside in
      let here : part_of p f (get_or xs i x) ≡ 0 = rw (← is) (rw fails) in
      omega (arith, so_far, more, here)

  pub sum_part_fits : p x ≡ true → n + f x ≤ sum_by f (filter p xs)
  sum_part_fits passes =
      omega (arith, sum_part_more passes, sum_by-take-le (part_of p f) xs (i + 1), sum_by-filter f p xs)

pub sum_part_all : {X : Type 0} (p : X → Bool) (f : X → ℕ) (xs : List X) (i n : ℕ) → length xs ≤ i
    → n ≡ sum_by (part_of p f) (take i xs) → n ≡ sum_by f (filter p xs)
sum_part_all p f xs i n end so_far =
    so_far ∙ ap (λ ys. sum_by (part_of p f) ys) (take_all i xs end) ∙ sym (sum_by-filter f p xs)

-- the sum over those that pass is at most the sum over all
pub sum_part_le : {X : Type 0} (p : X → Bool) (f : X → ℕ) (xs : List X) → sum_by f (filter p xs) ≤ sum_by f xs
sum_part_le p f xs =
    omega (arith, sum_by-filter f p xs, sum_by-le-sum_by (part_of p f) f xs (λ y. cond_le (p y) (f y)))
