-- Finite sets of numbers, as lists of intervals.
use Rattle.std.specs.Prelude.{ℕ, ◌+◌, ◌-◌, ◌<◌, ◌≤◌, ◌^◌, Bool, ◌&&◌, List, [], ◌∷◌, nat_le}
use Rattle.std.specs.List.{flat_map, range_with_len, list_any}
use Rattle.std.specs.Ordering.{nat_cmp}
use Rattle.std.specs.FinSet as set
use Rattle.drf_kinds.specs.declared.interval.Interval.{Interval}
use Rattle.drf_kinds.specs.Sets.{IsSetOf}

-- a set of numbers below 2^32
abbrev pub IsNumberSet : set.FinSet nat_cmp → Type 0
IsNumberSet = IsSetOf (λ n. n < 2 ^ 32)

-- the numbers of an interval, from its first to its last
abbrev pub numbers : Interval → List ℕ
numbers i = range_with_len i.first (i.last + 1 - i.first)

-- the numbers of all the intervals
unfoldable pub members : List Interval → set.FinSet nat_cmp
members intervals = set.from_list (flat_map numbers intervals)

-- the intervals begin at `low` or later, and after each there is a number that is in none
abbrev pub AreMaximalFrom : ℕ → List Interval → Type 0
AreMaximalFrom low [] = Unit {0}
AreMaximalFrom low (i ∷ is) = (low ≤ i.first) × (i.first ≤ i.last) × (i.last < 2 ^ 32) × AreMaximalFrom (i.last + 2) is

-- ascending intervals of numbers below 2^32, with a number between any two that is in neither
abbrev pub AreMaximal : List Interval → Type 0
AreMaximal = AreMaximalFrom 0

-- the maximal intervals of a set of numbers below 2^32
pub record AreIntervalsOfSet (intervals : List Interval) : Type 0 where
  pub maximal : AreMaximal intervals
  pub given : IsNumberSet (members intervals)

-- the interval of a pair of numbers
abbrev pub interval_of : ℕ × ℕ → Interval
interval_of pair = record { first = pair.0; last = pair.1 }

-- whether a number is in an interval
abbrev pub is_within : Interval → ℕ → Bool
is_within i n = nat_le i.first n && nat_le n i.last

-- whether a number is in one of the intervals
abbrev pub is_in : List Interval → ℕ → Bool
is_in intervals n = list_any (λ i. is_within i n) intervals
