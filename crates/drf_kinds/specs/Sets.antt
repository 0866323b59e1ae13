-- Finite sets as amounts: their join is their union, if they are disjoint.
use Rattle.std.specs.Prelude.{Bool, not, ◌&&◌, ◌||◌, Option, Some, None, IsTrue, ◌==◌, if◌then◌else◌}
use Rattle.std.specs.Bool.{beq}
use Rattle.std.specs.declared.cmp.Ordering.{Ordering}
use Rattle.std.specs.FinSet as set
use Rattle.drf_amount.specs.declared.algebra.AlgebraFault.{AlgebraFault}
use Rattle.drf_amount.specs.declared.algebra.AlgebraFault.TheVariants.{Overlap}

module _ {K : Type 0} {R : K → K → Ordering} where
  -- each member has P
  pub record IsSetOf (P : K → Type 0) (a : set.FinSet R) : Type 0 where
    pub each : (k : K) → IsTrue (set.contains a k) → P k

  -- no member is in both sets
  abbrev pub are_disjoint : set.FinSet R → set.FinSet R → Bool
  are_disjoint a b = set.len (set.intersection a b) == 0

  -- the union, if the sets are disjoint
  abbrev pub set_join : set.FinSet R → set.FinSet R → Option (set.FinSet R)
  set_join a b = if are_disjoint a b then Some (set.union a b) else None

  -- sets that share a member overlap
  abbrev pub set_refusal : set.FinSet R → set.FinSet R → Option AlgebraFault
  set_refusal a b = if are_disjoint a b then None else Some Overlap

-- whether a member is kept, given whether it is in the left and in the right set: `united` keeps what is in either, and
-- otherwise what is only in the left one is kept
abbrev pub is_kept : Bool → Bool → Bool → Bool
is_kept united left right = if united then left || right else left && not right

-- in the left set, and in the right one (`inside`) or not in it (otherwise)
abbrev pub is_met : Bool → Bool → Bool → Bool
is_met inside left right = left && beq right inside
