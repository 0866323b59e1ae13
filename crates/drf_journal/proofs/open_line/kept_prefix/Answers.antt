use Rattle.std.proofs.Common.{◌≡◌, ℕ, ◌≤◌, ◌<◌, List, length, take, min, ⊎_elim, sym, ap, ◌∙◌, arith}
use Rattle.std.proofs.lemmas.Bool.{cases_lt}
use Rattle.std.proofs.lemmas.List.{take_all}
use Rattle.drf_journal.proofs.open_line.kept_prefix.Goals as goal

-- taking more elements than there are gives all
take_within : (n : ℕ) (xs : List ℕ) → take (min (length xs) n) xs ≡ take n xs
take_within n xs =
    ⊎_elim
    (λ (long : n < length xs). let least : min (length xs) n ≡ n = omega arith in ap (λ k. take k xs) least)
    (λ (short : length xs ≤ n). take_all _ _ (omega arith) ∙ sym (take_all n xs (omega arith)))
    (cases_lt n (length xs))

pub returns : goal.returns
returns c = rw c.min.ensures (take_within _ c.args.line.now)
