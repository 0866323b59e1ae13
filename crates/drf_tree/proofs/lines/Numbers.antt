-- A list of numbers, one more at a time.
use Rattle.std.specs.List.{list_any}
use Rattle.std.proofs.Common.{sym, ap, ◌∙◌, inl, inr, ◌≡◌, ◌<◌, ◌+◌, ◌==◌, ◌⊎◌, ℕ, Bool, false, true, List, [], ◌∷◌, ◌++◌, get_or, length, take}
use Rattle.std.proofs.lemmas.Bool.{eqb-true, false≢true, or_cases, or_left, or_right}
use Rattle.std.proofs.lemmas.List.{take_more}

pub any_parts : {X : Type 0} (p : X → Bool) (xs : List X) (x : X) → list_any p (xs ++ x ∷ []) ≡ true
    → (list_any p xs ≡ true) ⊎ (p x ≡ true)
any_parts p [] x some = elim (or_cases (p x) false some) [
  | inl here ↦ inr here
  | inr past ↦ absurd (false≢true past)
]
any_parts p (y ∷ xs) x some = elim (or_cases (p y) (list_any p (xs ++ x ∷ [])) some) [
  | inl here ↦ inl (or_left (p y) (list_any p xs) here)
  | inr past ↦ elim (any_parts p xs x past) [
    | inl before ↦ inl (or_right (p y) (list_any p xs) before)
    | inr last ↦ inr last
  ]
]

-- a number that is in a prefix of the list
pub prefix_parts : (numbers : List ℕ) (k i : ℕ) → k < length numbers → list_any (λ n. n == i) (take (k + 1) numbers) ≡ true
    → (list_any (λ n. n == i) (take k numbers) ≡ true) ⊎ (get_or numbers k 0 ≡ i)
prefix_parts numbers k i inside some =
    elim (any_parts (λ n. n == i) (take k numbers) (get_or numbers k 0)
    (sym (ap (list_any (λ n. n == i)) (take_more numbers k 0 inside)) ∙ some)) [
      | inl before ↦ inl before
      | inr last ↦ inr (eqb-true (get_or numbers k 0) i last)
    ]
