-- Theorems about increasing numbers.
use Rattle.std.specs.Prelude.{◌≡◌, ℕ, ◌<◌, true, ◌&&◌, List, [], ◌∷◌, nat_lt}
use Rattle.std.specs.List.{list_all, AllByRecursion}
use Rattle.std.proofs.lemmas.Bool.{and_parts, ltb-true}
use Rattle.drf_rows.specs.Consistent.{are_rising}
use Rattle.drf_holdings.specs.Rising.{IsRising}

each_above : (n : ℕ) (ns : List ℕ) → list_all (nat_lt n) ns ≡ true → AllByRecursion (λ m. n < m) ns
each_above n [] all = tt
each_above n (m ∷ ns) all =
    let parts = and_parts (nat_lt n m) (list_all (nat_lt n) ns) all in
    (ltb-true n m parts.0, each_above n ns parts.1)

-- the numbers of consistent rows are increasing
pub rising_from : (ns : List ℕ) (next : ℕ) → are_rising ns next ≡ true → IsRising ns
rising_from [] next rising = tt
rising_from (n ∷ ns) next rising =
    let parts = and_parts (nat_lt n next && list_all (nat_lt n) ns) (are_rising ns next) rising in
    let first = and_parts (nat_lt n next) (list_all (nat_lt n) ns) parts.0 in
    (each_above n ns first.1, rising_from ns next parts.1)
