-- Offers that are added after others.
use Rattle.std.specs.List.{AllByRecursion, list_all}
use Rattle.std.proofs.Common.{refl, ap, ◌∙◌, arith, ◌≡◌, ℕ, ◌<◌, ◌≤◌, Bool, true, not, ◌&&◌, nat_lt, List, [], ◌∷◌, ◌++◌, map, filter, slice_get, Option, Some, None}
use Rattle.std.proofs.lemmas.Bool.{and_parts, ltb-true, lt-ltb, le-ltb}
use Rattle.drf_tables.proofs.tables.Names.{are_rising, OfferRow, first_number}
use Rattle.drf_holdings.specs.Listed.{offer_number}
use Rattle.drf_holdings.specs.Rising.{IsRising}
use Rattle.drf_holdings.proofs.RisingLaws.{rising_from}

abbrev is_from : ℕ → OfferRow → Bool
is_from number o = not (nat_lt o.number number)

pub below_next : (os : List OfferRow) (next : ℕ) → are_rising (map offer_number os) next ≡ true → AllByRecursion (λ o. o.number < next) os
below_next [] next rising = tt
below_next (o ∷ os) next rising =
    let parts = and_parts (nat_lt o.number next && list_all (nat_lt o.number) (map offer_number os)) (are_rising (map offer_number os) next) rising in
    let first = and_parts (nat_lt o.number next) (list_all (nat_lt o.number) (map offer_number os)) parts.0 in
    (ltb-true o.number next first.0, below_next os next parts.1)

none_from : (number : ℕ) (os new : List OfferRow) → AllByRecursion (λ o. o.number < number) os
    → filter (is_from number) (os ++ new) ≡ filter (is_from number) new
none_from number [] new below = refl
none_from number (o ∷ os) new below = rw (lt-ltb o.number number below.0) (none_from number os new below.1)

all_from : (number low : ℕ) (os : List OfferRow) → number ≤ low → AllByRecursion (λ m. low < m) (map offer_number os) → filter (is_from number) os ≡ os
all_from number low [] le above = refl
all_from number low (o ∷ os) le above =
    rw (le-ltb o.number number (omega (arith, le, above.0))) (ap (λ (ps : List OfferRow). o ∷ ps) (all_from number low os le above.1))

before_first : (os new : List OfferRow) (o : OfferRow) → IsRising (map offer_number (os ++ o ∷ new)) → AllByRecursion (λ p. p.number < o.number) os
before_first [] new o rising = tt
before_first (p ∷ os) new o rising = (last os rising.0, before_first os new o rising.1)
  where
    last : (qs : List OfferRow) → AllByRecursion (λ m. p.number < m) (map offer_number (qs ++ o ∷ new)) → p.number < o.number
    last [] above = above.0
    last (q ∷ qs) above = last qs above.1

behind_first : (os new : List OfferRow) (o : OfferRow) → IsRising (map offer_number (os ++ o ∷ new)) → IsRising (map offer_number (o ∷ new))
behind_first [] new o rising = rising
behind_first (p ∷ os) new o rising = behind_first os new o rising.1

-- the new offers are those whose numbers are not below that of the first new one
pub from_first : (os new : List OfferRow) (next : ℕ) → IsRising (map offer_number (os ++ new)) → AllByRecursion (λ o. o.number < next) os
    → filter (is_from (first_number new next)) (os ++ new) ≡ new
from_first os [] next rising below = none_from next os [] below
from_first os (o ∷ new) next rising below =
    none_from o.number os (o ∷ new) (before_first os new o rising)
    ∙ rw (le-ltb o.number o.number (omega arith)) (ap (λ (ps : List OfferRow). o ∷ ps)
    (all_from o.number o.number new (omega arith) (behind_first os new o rising).0))

pub made_from : (os new all : List OfferRow) (first next later : ℕ) → are_rising (map offer_number os) next ≡ true
    → are_rising (map offer_number (os ++ new)) later ≡ true → first ≡ first_number new next → all ≡ os ++ new → filter (is_from first) all ≡ new
made_from os new all first next later old risen is so =
    (λ i. filter (is_from (is i)) (so i)) ∙ from_first os new next (rising_from (map offer_number (os ++ new)) later risen) (below_next os next old)

-- the first offer has the first number
pub first_is : (os : List OfferRow) (o : OfferRow) (next : ℕ) → Some o ≡ slice_get os 0 → o.number ≡ first_number os next
first_is [] o next is = cc
first_is (p ∷ os) o next is =
    let same : o ≡ p = cc in
    ap offer_number same

pub first_none : (os : List OfferRow) (next : ℕ) → ◌≡◌ {A = Option OfferRow} None (slice_get os 0) → next ≡ first_number os next
first_none [] next is = refl
first_none (p ∷ os) next is = cc
