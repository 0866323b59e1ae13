-- The members of a finite set in ascending order, and the maximal intervals of a set of numbers.
use Rattle.std.specs.Prelude.{ℕ, ◌+◌, ◌==◌, List, [], ◌∷◌, map, if◌then◌else◌}
use Rattle.std.specs.declared.cmp.Ordering.{Ordering}
use Rattle.std.specs.Ordering.{nat_cmp}
use Rattle.std.specs.FinSet as set
use Rattle.std.specs.FinMap as finite
use Rattle.drf_kinds.specs.declared.interval.Interval.{Interval}

-- the members of a set in ascending order
unfoldable pub listed : {K : Type 0} {R : K → K → Ordering} → set.FinSet R → List K
listed {K} {R} members = finite.keys (finite.from_entries {R = R} (map (λ k. (k, tt {0})) (set.items members)))

-- a number added before intervals of greater numbers; it joins the first of them if that begins just after it
abbrev pub with_number : ℕ → List Interval → List Interval
with_number n [] = record { first = n; last = n } ∷ []
with_number n (i ∷ is) =
    if i.first == n + 1 then record { first = n; last = i.last } ∷ is else record { first = n; last = n } ∷ i ∷ is

-- ascending numbers as intervals, with neighbours in the same one
abbrev pub runs_of : List ℕ → List Interval
runs_of [] = []
runs_of (n ∷ ns) = with_number n (runs_of ns)

-- the maximal intervals of a set of numbers
unfoldable pub intervals_of : set.FinSet nat_cmp → List Interval
intervals_of numbers = runs_of (listed numbers)
