-- Lists of any type.
use Rattle.std.proofs.Common.{◌≡◌, ◌≤◌, Bool, false, nat_lt, List, length, None, inl, inr, arith}
use Rattle.std.specs.List.{list_any, position, position_or_len}
use Rattle.std.proofs.lemmas.Bool.{cases_Bool, ltb-false}
use Rattle.std.proofs.lemmas.List.Folds.{list_any_none}
use Rattle.std.proofs.lemmas.List.Sums.{fails_before_first}

-- if no element passes a test, no position is found
pub position-none : {X : Type 0} (p : X → Bool) (xs : List X) → None ≡ position p xs → list_any p xs ≡ false
position-none p xs is = elim (cases_Bool (nat_lt (position_or_len p xs) (length xs))) [
  | inl within ↦ absurd (let bad = rw within at is in cc)
  | inr past ↦
      let end : length xs ≤ position_or_len p xs = ltb-false _ _ past in
      list_any_none p xs (λ k d inside. fails_before_first p xs k d (omega arith))
]
