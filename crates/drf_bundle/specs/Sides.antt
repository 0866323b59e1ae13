-- Walking through two lists of resources side by side.
use Rattle.std.specs.Prelude.{◌+◌, Bool, not, List, [], ◌∷◌, Option, Some, None, if◌then◌else◌}
use Rattle.std.specs.List.{list_all}
use Rattle.std.specs.declared.cmp.Ordering.{Ordering}
use Rattle.std.specs.declared.cmp.Ordering.TheVariants.{Less, Equal, Greater}
use Rattle.std.specs.Ordering.{nat_cmp}
use Rattle.std.specs.Cmp.Lexicographic.{slice_cmp}
use Rattle.drf_role.specs.Text.{Text, text_below}
use Rattle.drf_amount.specs.declared.algebra.AlgebraFault.{AlgebraFault}
use Rattle.drf_amount.specs.declared.algebra.AlgebraFault.TheVariants as fault
use Rattle.drf_bundle.specs.Bundle.{key_of, key_cmp, stock, Fits, have_clash}
use Rattle.drf_bundle.specs.declared.value.Clash.TheVariants.{Kinds, Members}
use Rattle.drf_bundle.specs.declared.merge.Side.{Side}
use Rattle.drf_bundle.specs.declared.merge.Side.TheVariants.{Left, Right, Both}
use Rattle.drf_bundle.specs.declared.resource.Resource.{Resource}

-- the side with the smaller key, given how the left key compares with the right one
abbrev pub side_of : Ordering → Side
side_of Less = Left
side_of Equal = Both
side_of Greater = Right

-- which list has the next key
abbrev pub next_side : List Resource → List Resource → Option Side
next_side [] [] = None
next_side [] (s ∷ ss) = Some Right
next_side (r ∷ rs) [] = Some Left
next_side (r ∷ rs) (s ∷ ss) = Some (side_of (key_cmp (key_of r) (key_of s)))

-- the stocks of both together fit
abbrev pub FitTogether : List Resource → List Resource → Type 0
FitTogether left right = Fits (λ name p. stock left name p + stock right name p)

-- no resource has a name before this one
abbrev pub none_before : Text → List Resource → Bool
none_before name others = list_all (λ s. not (text_below s.label name)) others

-- how the names of the first resources compare, if both lists have one
abbrev pub names_cmp : List Resource → List Resource → Option Ordering
names_cmp [] others = None
names_cmp (r ∷ rs) [] = None
names_cmp (r ∷ rs) (s ∷ ss) = Some (slice_cmp nat_cmp r.label s.label)

-- why values of a name clash: two kinds, or else a member of both
abbrev pub clash_fault : List Resource → List Resource → Option AlgebraFault
clash_fault a b =
    if have_clash Kinds a b then Some fault.Kind
    else if have_clash Members a b then Some fault.Overlap
    else None
