-- Walking along a set of numbers: the places where it begins and ends, in ascending order, and steps past them.
use Rattle.std.specs.Prelude.{◌==◌, ℕ, ◌+◌, ◌^◌, Bool, not, List, [], ◌∷◌, if◌then◌else◌}
use Rattle.drf_kinds.specs.declared.interval.Interval.{Interval}

-- the places that are still to come, and whether the numbers before the next one are members
pub record Steps : Type 0 where
  pub inside : Bool
  pub places : List ℕ

-- where the set begins, where it ends, where it begins again, and so on
abbrev pub places_of : List Interval → List ℕ
places_of [] = []
places_of (i ∷ is) = i.first ∷ (i.last + 1) ∷ places_of is

-- all but the first place
abbrev pub rest : List ℕ → List ℕ
rest [] = []
rest (p ∷ ps) = ps

-- the steps for intervals; if they are inside, the first interval has already begun
abbrev pub steps_of : Bool → List Interval → Steps
steps_of inside is = record { inside = inside; places = (if inside then rest (places_of is) else places_of is) }

-- the next place, or a number greater than all places if there is none
abbrev pub next_place : List ℕ → ℕ
next_place [] = 2 ^ 33
next_place (p ∷ ps) = p

-- the steps after a place is passed, if it is the next one
abbrev pub passed : ℕ → Steps → Steps
passed place s = if next_place s.places == place then record { inside = not s.inside; places = rest s.places } else s
