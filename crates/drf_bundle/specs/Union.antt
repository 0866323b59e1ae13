-- Uniting a resource with a bundle: at an existing key scalars are added and sets united, and sets can share members.
use Rattle.std.specs.Prelude.{◌≡◌, ◌+◌, ◌^◌, Bool, not, ◌&&◌, List, [], ◌∷◌, Option, Some, None, nat_le, if◌then◌else◌}
use Rattle.std.specs.List.{list_any}
use Rattle.drf_role.specs.Text.{Text, same_text}
use Rattle.drf_role.specs.Name.{IsLabel}
use Rattle.drf_role.specs.Parts.{parts_of, text_of}
use Rattle.drf_role.specs.Role.{IsRole}
use Rattle.drf_amount.specs.declared.algebra.AlgebraFault.{AlgebraFault}
use Rattle.drf_amount.specs.declared.algebra.AlgebraFault.TheVariants as fault
use Rattle.drf_bundle.specs.Value.{Thousandths, units_in, IsGiven, is_same_kind, share_members, united}
use Rattle.drf_bundle.specs.Bundle.{key_of, same_key, stock, merged, filled_of, join_or}
use Rattle.drf_bundle.specs.declared.resource.Resource.{Resource}
use Rattle.drf_bundle.specs.declared.value.Value.{Value}

-- a resource that is read: its value can be empty
pub record IsPiece (r : Resource) : Type 0 where
  pub label : IsLabel r.label
  pub role : IsRole r.role
  pub role_read : parts_of (text_of r.role) ≡ r.role
  pub value : IsGiven r.value

-- a value of another kind has the name
abbrev pub has_other_kind : List Resource → Text → Value → Bool
has_other_kind bundle name v = list_any (λ s. same_text s.label name && not (is_same_kind s.value v)) bundle

-- a member of the resource is under another reservation of its name
abbrev pub is_reserved_elsewhere : List Resource → Resource → Bool
is_reserved_elsewhere bundle r =
    list_any (λ s. same_text s.label r.label && (not (same_key (key_of s) (key_of r)) && share_members s.value r.value)) bundle

-- with the resource, the scalars of its name exceed 2^64 - 1 thousandths
abbrev pub is_too_much : List Resource → Resource → Bool
is_too_much bundle r = nat_le (2 ^ 64) (stock bundle r.label Thousandths + units_in r.value Thousandths)

-- why a resource cannot be united with a bundle; an empty value has a kind too
abbrev pub union_refusal : List Resource → Resource → Option AlgebraFault
union_refusal bundle r =
    if has_other_kind bundle r.label r.value then Some fault.Kind
    else if is_reserved_elsewhere bundle r then Some fault.Overlap
    else if is_too_much bundle r then Some fault.TooLarge
    else None

-- the resources with one more; an empty value adds none
abbrev pub with_united : List Resource → Resource → List Resource
with_united bundle r = merged bundle (filled_of (r ∷ []))

-- the value at the key of the resource afterwards
abbrev pub united_at : Option Value → Value → Value
united_at None w = w
united_at (Some v) w = united v w

-- the union: the resources with one more, if there is no reason against it
abbrev pub union : List Resource → Resource → Option (List Resource)
union bundle r = join_or (union_refusal bundle r) (with_united bundle r)
