-- Bundles: values by name and reservation. A bundle is determined by its units.
use Rattle.std.specs.Prelude.{◌≡◌, ℕ, ◌+◌, ◌<◌, ◌≤◌, ◌^◌, Bool, true, false, ◌&&◌, ◌||◌, List, [], ◌∷◌, map, filter, Option, Some, None, IsTrue, All, nat_lt, nat_le, min, if◌then◌else◌}
use Rattle.std.specs.List.{list_all, list_any, sum_by}
use Rattle.std.specs.Option.{option_map_or}
use Rattle.std.specs.declared.cmp.Ordering.{Ordering}
use Rattle.std.specs.Ordering.{nat_cmp, ordering_then, is_lt, match_ordering}
use Rattle.std.specs.Cmp.Lexicographic.{slice_cmp}
use Rattle.drf_role.specs.Text.{Text, same_text}
use Rattle.drf_role.specs.Name.{IsLabel}
use Rattle.drf_role.specs.Parts.{parts_of, text_of}
use Rattle.drf_role.specs.Path.{Path, same_path, begins_with}
use Rattle.drf_role.specs.Role.{IsRole, default_role}
use Rattle.drf_amount.specs.declared.algebra.AlgebraFault.{AlgebraFault}
use Rattle.drf_amount.specs.declared.algebra.AlgebraFault.TheVariants as fault
use Rattle.drf_bundle.specs.Value.{Point, Thousandths, units_in, most, is_one_kind, amount_in, IsGiven, clash_in, united, less, has_all_of}
use Rattle.drf_bundle.specs.Quantities.{amount_of, is_named, with_amount}
use Rattle.drf_bundle.specs.declared.quantities.Entry.{Entry}
use Rattle.drf_bundle.specs.declared.resource.Resource.{Resource}
use Rattle.drf_bundle.specs.declared.value.Value.{Value}
use Rattle.drf_bundle.specs.declared.value.Value.TheVariants.{Scalar, Ranges, Items}
use Rattle.drf_bundle.specs.declared.value.Clash.{Clash}
use Rattle.drf_bundle.specs.declared.value.Clash.TheVariants.{Kinds, Members}

-- ---- names and reservations

-- the name and the reservation of a resource; the reservation is empty, or the text of a role
abbrev pub Key : Type 0
Key = Text × Text

-- the role is `*`, which means unreserved
abbrev pub is_default : Path → Bool
is_default role = same_path role default_role

-- the reservation for a role: empty for `*`, so that it comes before all others, and otherwise the text of the role
abbrev pub reservation : Path → Text
reservation role = if is_default role then [] else text_of role

abbrev pub key_of : Resource → Key
key_of r = (r.label, reservation r.role)

-- keys are ordered by the bytes of the names, then by those of the reservations
abbrev pub key_cmp : Key → Key → Ordering
key_cmp k l = ordering_then (slice_cmp nat_cmp k.0 l.0) (slice_cmp nat_cmp k.1 l.1)

abbrev pub key_below : Key → Key → Bool
key_below k l = is_lt (key_cmp k l)

abbrev pub same_key : Key → Key → Bool
same_key k l = same_text k.0 l.0 && same_text k.1 l.1

-- each resource comes before all later ones
abbrev pub is_in_order : List Resource → Bool
is_in_order [] = true
is_in_order (r ∷ rs) = list_all (λ s. key_below (key_of r) (key_of s)) rs && is_in_order rs

-- ---- units

-- the units at a point, over all resources whose key passes a test
abbrev pub units_where : (Key → Bool) → Point → List Resource → ℕ
units_where test p bundle = sum_by (λ r. if test (key_of r) then units_in r.value p else 0) bundle

-- the units with this name and reservation
abbrev pub units : List Resource → Key → Point → ℕ
units bundle key p = units_where (same_key key) p bundle

-- the units with this name, over all reservations
abbrev pub stock : List Resource → Text → Point → ℕ
stock bundle name p = units_where (λ key. same_text name key.0) p bundle

-- ---- bundles

pub record IsResource (r : Resource) : Type 0 where
  pub label : IsLabel r.label
  pub role : IsRole r.role
  pub role_read : parts_of (text_of r.role) ≡ r.role
  pub value : IsGiven r.value
  pub filled : 0 < amount_in r.value

-- what a bundle can have of each name over all reservations: one kind, no member twice, and less than 2^64 thousandths
pub record Fits (stock_of : Text → Point → ℕ) : Type 0 where
  pub one_kind : (name : Text) (p q : Point) → 0 < stock_of name p → 0 < stock_of name q → IsTrue (is_one_kind p q)
  pub at_most : (name : Text) (p : Point) → stock_of name p ≤ most p

-- the resources are in order, and their stocks fit
pub record IsBundle (bundle : List Resource) : Type 0 where
  pub in_order : IsTrue (is_in_order bundle)
  pub each : All IsResource bundle
  pub fits : Fits (stock bundle)

-- the value at a key
abbrev pub value_at : List Resource → Key → Option Value
value_at [] key = None
value_at (r ∷ rs) key = if same_key key (key_of r) then Some r.value else value_at rs key

-- the size of a bundle: all its units
abbrev pub amount : List Resource → ℕ
amount bundle = sum_by (λ r. amount_in r.value) bundle

-- ---- joins

-- the resource with another value
abbrev pub with_value : Resource → Value → Resource
with_value r v = record { label = r.label; role = r.role; value = v }

-- the union of two resources with the same key
abbrev pub both_of : Resource → Resource → Resource
both_of r s = with_value r (united r.value s.value)

-- a resource inserted among others: those before it stay, one with its key is united with it, and the rest of the list
-- is merged with those after it
abbrev pub put_among : Resource → (List Resource → List Resource) → List Resource → List Resource
put_among r merge_rest [] = r ∷ merge_rest []
put_among r merge_rest (s ∷ ss) = match_ordering (key_cmp (key_of r) (key_of s))
    (r ∷ merge_rest (s ∷ ss))
    (both_of r s ∷ merge_rest ss)
    (s ∷ put_among r merge_rest ss)

-- the resources of both lists in order, with equal keys united: each resource of one list is inserted into the other
abbrev pub merged : List Resource → List Resource → List Resource
merged [] others = others
merged (r ∷ rs) others = put_among r (merged rs) others

-- some of the resources has this name and clashes in this way
abbrev pub clashes_with_some : Clash → Resource → List Resource → Bool
clashes_with_some clash r others = list_any (λ s. same_text r.label s.label && clash_in clash r.value s.value) others

-- some name has values in both lists that clash in this way
abbrev pub have_clash : Clash → List Resource → List Resource → Bool
have_clash clash a b = list_any (λ r. clashes_with_some clash r b) a

-- the scalars of this name exceed 2^64 - 1 thousandths
abbrev pub exceeds : List Resource → List Resource → Text → Bool
exceeds a b name = nat_le (2 ^ 64) (stock a name Thousandths + stock b name Thousandths)

-- the scalars of some name exceed it
abbrev pub is_too_large : List Resource → List Resource → Bool
is_too_large a b = list_any (λ r. exceeds a b r.label) a

-- why two bundles have no join: a name of two kinds, a member of both, or a scalar that is too large, in this order
abbrev pub refusal : List Resource → List Resource → Option AlgebraFault
refusal a b =
    if have_clash Kinds a b then Some fault.Kind
    else if have_clash Members a b then Some fault.Overlap
    else if is_too_large a b then Some fault.TooLarge
    else None

-- the join: all resources, if there is no reason against it
abbrev pub join_or : Option AlgebraFault → List Resource → Option (List Resource)
join_or (Some refused) whole = None
join_or None whole = Some whole

abbrev pub join : List Resource → List Resource → Option (List Resource)
join a b = join_or (refusal a b) (merged a b)

-- ---- rests

abbrev pub less_at : Option Value → Value → Value
less_at None v = v
less_at (Some part) v = less v part

-- the resource without what the part has at its key
abbrev pub left_of : List Resource → Resource → Resource
left_of part r = with_value r (less_at (value_at part (key_of r)) r.value)

-- the resources that are not empty
abbrev pub filled_of : List Resource → List Resource
filled_of rs = filter (λ r. nat_lt 0 (amount_in r.value)) rs

-- the rest of a bundle without a part
abbrev pub rest : List Resource → List Resource → List Resource
rest whole part = filled_of (map (left_of part) whole)

-- the value at the key of the resource covers it
abbrev pub covers_one : List Resource → Resource → Bool
covers_one whole r = option_map_or (λ v. has_all_of v r.value) (value_at whole (key_of r)) false

-- the bundle covers each resource of the part
abbrev pub covers : List Resource → List Resource → Bool
covers whole part = list_all (λ r. covers_one whole r) part

-- ---- bundles that are made from others

-- one resource, or none if the value is empty
abbrev pub one_of : Text → Path → Value → List Resource
one_of label role value = filled_of ((record { label = label; role = role; value = value }) ∷ [])

-- the sums, with a scalar added to that of its name
abbrev pub add_scalar : List Entry → Resource → List Entry
add_scalar sums r = add r.value
  where
    add : Value → List Entry
    add (Scalar thousandths) = with_amount sums r.label (amount_of sums r.label + thousandths)
    add (Ranges numbers) = sums
    add (Items members) = sums

abbrev pub add_scalars : List Entry → List Resource → List Entry
add_scalars sums [] = sums
add_scalars sums (r ∷ rs) = add_scalars (add_scalar sums r) rs

-- the scalars of each name, summed over all reservations
abbrev pub quantities_of : List Resource → List Entry
quantities_of bundle = add_scalars [] bundle

-- nothing in the bundle is reserved
abbrev pub is_unreserved : List Resource → Bool
is_unreserved bundle = list_all (λ r. is_default r.role) bundle

-- the role can use the resource: it is unreserved, or reserved for the role or a role above it
abbrev pub is_for : Path → Resource → Bool
is_for role r = is_default r.role || begins_with role r.role

-- what a role can use of a bundle
abbrev pub part_for : Path → List Resource → List Resource
part_for role bundle = filter (is_for role) bundle

-- a scalar, cut to the limit if it is limited
abbrev pub cut : Bool → ℕ → Value → Value
cut limited limit (Scalar thousandths) = Scalar (if limited then min thousandths limit else thousandths)
cut limited limit (Ranges numbers) = Ranges numbers
cut limited limit (Items members) = Items members

-- the resource, cut to its limit if it is an unreserved scalar that the limits name
abbrev pub clipped : List Entry → Resource → Resource
clipped limits r = with_value r (cut (is_default r.role && is_named limits r.label) (amount_of limits r.label) r.value)

abbrev pub clip : List Entry → List Resource → List Resource
clip limits bundle = filled_of (map (clipped limits) bundle)

-- the resource with this reservation
abbrev pub moved_to : Path → Resource → Resource
moved_to role r = record { label = r.label; role = role; value = r.value }

-- the bundle with all of it reserved for the role
abbrev pub relabel : Path → List Resource → List Resource
relabel role bundle = map (moved_to role) bundle

-- the invariant of the content of a bundle
pub record HasSums (resources : List Resource) (quantities : List Entry) : Type 0 where
  pub bundle : IsBundle resources
  pub sums : quantities ≡ quantities_of resources
