-- Increasing numbers.
use Rattle.std.specs.Prelude.{◌≡◌, ℕ, ◌<◌, ◌==◌, false, ⊤, List, [], ◌∷◌}
use Rattle.std.specs.List.{AllByRecursion}

-- each number is less than all later ones
abbrev pub IsRising : List ℕ → Type 0
IsRising [] = ⊤
IsRising (n ∷ ns) = AllByRecursion (λ m. n < m) ns × IsRising ns

-- no thing has this number
abbrev pub AreOthers : {X : Type 0} → (X → ℕ) → ℕ → List X → Type 0
AreOthers number n xs = AllByRecursion (λ x. (number x == n) ≡ false) xs
