-- Statements about the units of bundles.
use Rattle.std.specs.Prelude.{◌≡◌, ◌↔◌, ◌+◌, ◌-◌, ◌≤◌, List, Some, None, IsTrue, if◌then◌else◌}
use Rattle.drf_role.specs.Text.{Text}
use Rattle.drf_role.specs.Parts.{parts_of, text_of}
use Rattle.drf_role.specs.Path.{Path}
use Rattle.drf_role.specs.Role.{IsRole}
use Rattle.drf_bundle.specs.Value.{Point, Thousandths, units_in}
use Rattle.drf_bundle.specs.Quantities.{HasNoZeros, amount_of, plus}
use Rattle.drf_bundle.specs.Bundle.{Key, key_of, same_key, value_at, IsBundle, units, stock, join, rest, covers, quantities_of, is_unreserved, part_for, clip, relabel}
use Rattle.drf_bundle.specs.Union.{IsPiece, union_refusal, with_united, united_at}
use Rattle.drf_bundle.specs.declared.quantities.Entry.{Entry}
use Rattle.drf_bundle.specs.declared.resource.Resource.{Resource}

-- two bundles with the same units are equal
abbrev pub KnownByUnits : Type 0
KnownByUnits = (a b : List Resource) → IsBundle a → IsBundle b → ((key : Key) (p : Point) → units a key p ≡ units b key p) → a ≡ b

-- a bundle is the join of two others exactly if it has the units of both
abbrev pub JoinHasUnitsOfBoth : Type 0
JoinHasUnitsOfBoth = (a b whole : List Resource) → IsBundle a → IsBundle b → IsBundle whole
    → (join a b ≡ Some whole) ↔ ((key : Key) (p : Point) → units whole key p ≡ units a key p + units b key p)

-- the stocks of a join are those of both bundles
abbrev pub StocksAdd : Type 0
StocksAdd = (a b whole : List Resource) → IsBundle a → IsBundle b → join a b ≡ Some whole → (name : Text) (p : Point) → stock whole name p ≡ stock a name p + stock b name p

-- a bundle covers another exactly if it has each of its units
abbrev pub CoversByUnits : Type 0
CoversByUnits = (whole part : List Resource) → IsBundle whole → IsBundle part → IsTrue (covers whole part) ↔ ((key : Key) (p : Point) → units part key p ≤ units whole key p)

-- the rest has the units of the whole that the part does not have
abbrev pub RestHasTheOthers : Type 0
RestHasTheOthers = (whole part : List Resource) → IsBundle whole → IsBundle part → (key : Key) (p : Point) → units (rest whole part) key p ≡ units whole key p - units part key p

abbrev pub RestIsBundle : Type 0
RestIsBundle = (whole part : List Resource) → IsBundle whole → IsBundle (rest whole part)

-- the rest joins with a covered part to the whole
abbrev pub RestAndPartJoin : Type 0
RestAndPartJoin = (whole part : List Resource) → IsBundle whole → IsBundle part → IsTrue (covers whole part) → join (rest whole part) part ≡ Some whole

-- the quantity of a name is the sum of its scalars over all reservations
abbrev pub QuantitiesSumScalars : Type 0
QuantitiesSumScalars = (bundle : List Resource) (name : Text) → amount_of (quantities_of bundle) name ≡ stock bundle name Thousandths

-- quantities are in order and name no zeros
abbrev pub QuantitiesHaveNoZeros : Type 0
QuantitiesHaveNoZeros = (bundle : List Resource) → IsBundle bundle → HasNoZeros (quantities_of bundle)

-- the quantities of a join are the sums of those of both bundles
abbrev pub QuantitiesAdd : Type 0
QuantitiesAdd = (a b whole : List Resource) → IsBundle a → IsBundle b → join a b ≡ Some whole
    → quantities_of whole ≡ plus (quantities_of a) (quantities_of b)

-- what a role can use of a bundle, and a bundle cut to limits, are bundles that the bundle covers
abbrev pub PartIsCovered : Type 0
PartIsCovered = (role : Path) (bundle : List Resource) → IsBundle bundle → IsBundle (part_for role bundle) × IsTrue (covers bundle (part_for role bundle))

abbrev pub ClippedIsCovered : Type 0
ClippedIsCovered = (limits : List Entry) (bundle : List Resource) → IsBundle bundle → IsBundle (clip limits bundle) × IsTrue (covers bundle (clip limits bundle))

-- a bundle relabelled for a role is a bundle with the same stocks
abbrev pub MovedIsBundle : Type 0
MovedIsBundle = (role : Path) (bundle : List Resource) → IsRole role → parts_of (text_of role) ≡ role → IsTrue (is_unreserved bundle) → IsBundle bundle → IsBundle (relabel role bundle)

abbrev pub MovedKeepsStocks : Type 0
MovedKeepsStocks = (role : Path) (bundle : List Resource) (name : Text) (p : Point) → stock (relabel role bundle) name p ≡ stock bundle name p

-- uniting a resource with a bundle makes a bundle
abbrev pub UnionIsBundle : Type 0
UnionIsBundle = (bundle : List Resource) (r : Resource) → IsBundle bundle → IsPiece r → union_refusal bundle r ≡ None → IsBundle (with_united bundle r)

-- at the key of the resource the value is united with it, and no other units change
abbrev pub UnionHasUnits : Type 0
UnionHasUnits = (bundle : List Resource) (r : Resource) → IsBundle bundle → (key : Key) (p : Point) → units (with_united bundle r) key p ≡ (if same_key key (key_of r) then units_in (united_at (value_at bundle (key_of r)) r.value) p else units bundle key p)
