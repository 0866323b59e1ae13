-- Finite sets of labels, as lists in byte order.
use Rattle.std.specs.Prelude.{ℕ, Bool, List, [], ◌∷◌, Option, Some, None}
use Rattle.std.specs.declared.cmp.Ordering.{Ordering}
use Rattle.std.specs.declared.cmp.Ordering.TheVariants.{Less, Equal, Greater}
use Rattle.std.specs.Cmp.Lexicographic.{slice_cmp}
use Rattle.std.specs.List.{list_any}
use Rattle.std.specs.List.Sorted.{IsStrictlySortedBy}
use Rattle.std.specs.Ordering.{nat_cmp, eq_by_cmp}
use Rattle.std.specs.FinSet as set
use Rattle.drf_role.specs.Name.{IsLabel}
use Rattle.drf_kinds.specs.Sets.{IsSetOf}
use Rattle.drf_kinds.specs.declared.merge.Side.{Side}
use Rattle.drf_kinds.specs.declared.merge.Side.TheVariants.{Left, Right, Both}

-- texts are compared by their bytes
abbrev pub text_cmp : List ℕ → List ℕ → Ordering
text_cmp = slice_cmp nat_cmp

-- a set of labels
abbrev pub IsLabelSet : set.FinSet text_cmp → Type 0
IsLabelSet = IsSetOf IsLabel

-- each text is before all later ones
abbrev pub AreAscending : List (List ℕ) → Type 0
AreAscending = IsStrictlySortedBy text_cmp

-- the names of a set of labels, in order and without repetitions
pub record AreNamesOfSet (names : List (List ℕ)) : Type 0 where
  pub ascending : AreAscending names
  pub given : IsLabelSet (set.from_list names)

-- whether a text is one of the names
abbrev pub is_named : List (List ℕ) → List ℕ → Bool
is_named names text = list_any (eq_by_cmp text_cmp text) names

-- the side with the smaller text, given how the left text compares with the right one
abbrev pub side_of : Ordering → Side
side_of Less = Left
side_of Equal = Both
side_of Greater = Right

-- which list has the next name
abbrev pub next_side : List (List ℕ) → List (List ℕ) → Option Side
next_side [] [] = None
next_side [] (y ∷ ys) = Some Right
next_side (x ∷ xs) [] = Some Left
next_side (x ∷ xs) (y ∷ ys) = Some (side_of (text_cmp x y))
