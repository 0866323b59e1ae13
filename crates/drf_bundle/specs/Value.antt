-- Values of resources: thousandths, a set of numbers or a set of labels. A value is determined by its units.
use Rattle.std.specs.Prelude.{ℕ, ◌+◌, ◌-◌, ◌^◌, Bool, true, false, not, ◌||◌, List, nat_le, if◌then◌else◌}
use Rattle.std.specs.FinSet as set
use Rattle.drf_amount.specs.Scalar.{IsScalar}
use Rattle.drf_kinds.specs.Sets.{are_disjoint}
use Rattle.drf_kinds.specs.Intervals.{IsNumberSet}
use Rattle.drf_kinds.specs.Names.{IsLabelSet}
use Rattle.drf_bundle.specs.declared.value.Value.{Value}
use Rattle.drf_bundle.specs.declared.value.Value.TheVariants.{Scalar, Ranges, Items}
use Rattle.drf_bundle.specs.declared.value.Clash.{Clash}
use Rattle.drf_bundle.specs.declared.value.Clash.TheVariants.{Kinds, Members, Either}

-- where a value has units: its thousandths, a number, or a member
pub data Point : Type 0 where
  Thousandths : Point
  Number : ℕ → Point
  Member : List ℕ → Point

-- how many units a value has at a point
abbrev pub units_in : Value → Point → ℕ
units_in (Scalar thousandths) Thousandths = thousandths
units_in (Ranges numbers) (Number n) = if set.contains numbers n then 1 else 0
units_in (Items members) (Member m) = if set.contains members m then 1 else 0
units_in value point = 0

-- the most units that a name can have at a point
abbrev pub most : Point → ℕ
most Thousandths = 2 ^ 64 - 1
most (Number n) = 1
most (Member m) = 1

-- both points belong to the same kind of value
abbrev pub is_one_kind : Point → Point → Bool
is_one_kind Thousandths Thousandths = true
is_one_kind (Number m) (Number n) = true
is_one_kind (Member m) (Member n) = true
is_one_kind p q = false

-- the size of a value: its thousandths, or its number of members
abbrev pub amount_in : Value → ℕ
amount_in (Scalar thousandths) = thousandths
amount_in (Ranges numbers) = set.len numbers
amount_in (Items members) = set.len members

-- a scalar below 2^64, numbers below 2^32, or labels
abbrev pub IsGiven : Value → Type 0
IsGiven (Scalar thousandths) = IsScalar thousandths
IsGiven (Ranges numbers) = IsNumberSet numbers
IsGiven (Items members) = IsLabelSet members

abbrev pub is_same_kind : Value → Value → Bool
is_same_kind (Scalar a) (Scalar b) = true
is_same_kind (Ranges a) (Ranges b) = true
is_same_kind (Items a) (Items b) = true
is_same_kind v w = false

-- the two sets share a member
abbrev pub share_members : Value → Value → Bool
share_members (Ranges a) (Ranges b) = not (are_disjoint a b)
share_members (Items a) (Items b) = not (are_disjoint a b)
share_members v w = false

-- the two values clash in that way
abbrev pub clash_in : Clash → Value → Value → Bool
clash_in Kinds v w = not (is_same_kind v w)
clash_in Members v w = share_members v w
clash_in Either v w = not (is_same_kind v w) || share_members v w

-- the sum of scalars, or the union of sets
abbrev pub united : Value → Value → Value
united (Scalar a) (Scalar b) = Scalar (a + b)
united (Ranges a) (Ranges b) = Ranges (set.union a b)
united (Items a) (Items b) = Items (set.union a b)
united v w = v

-- the rest of a value without another
abbrev pub less : Value → Value → Value
less (Scalar a) (Scalar b) = Scalar (a - b)
less (Ranges a) (Ranges b) = Ranges (set.difference a b)
less (Items a) (Items b) = Items (set.difference a b)
less v w = v

-- the other value is of the same kind, and all its units are in this one
abbrev pub has_all_of : Value → Value → Bool
has_all_of (Scalar a) (Scalar b) = nat_le b a
has_all_of (Ranges a) (Ranges b) = set.is_subset b a
has_all_of (Items a) (Items b) = set.is_subset b a
has_all_of v w = false
