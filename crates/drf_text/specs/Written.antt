-- The normal form in which amounts, quantities and bundles are written.
use Rattle.std.specs.Prelude.{ℕ, ◌+◌, ◌/◌, ◌%◌, ◌==◌, List, [], ◌∷◌, ◌++◌, map, if◌then◌else◌, decimal}
use Rattle.std.specs.List.{list_all, join_with_byte}
use Rattle.std.specs.FinSet as set
use Rattle.std.specs.Ordering.{nat_cmp}
use Rattle.drf_role.specs.Text.{Text}
use Rattle.drf_role.specs.Parts.{text_of}
use Rattle.drf_kinds.specs.Listed.{listed, intervals_of}
use Rattle.drf_kinds.specs.Names.{text_cmp}
use Rattle.drf_kinds.specs.declared.interval.Interval.{Interval}
use Rattle.drf_bundle.specs.Bundle.{is_default}
use Rattle.drf_bundle.specs.declared.quantities.Entry.{Entry}
use Rattle.drf_bundle.specs.declared.resource.Resource.{Resource}
use Rattle.drf_bundle.specs.declared.value.Value.{Value}
use Rattle.drf_bundle.specs.declared.value.Value.TheVariants.{Scalar, Ranges, Items}

-- ---- amounts

-- digits without trailing zeros
abbrev pub without_last_zeros : List ℕ → List ℕ
without_last_zeros [] = []
without_last_zeros (digit ∷ digits) =
    if list_all (λ d. d == 48) (digit ∷ digits) then [] else digit ∷ without_last_zeros digits

-- a number below 1000 as three digits
abbrev pub three_digits : ℕ → List ℕ
three_digits n = (48 + n / 100) ∷ (48 + n / 10 % 10) ∷ (48 + n % 10) ∷ []

-- the decimals of an amount: a point and the digits without trailing zeros, or nothing
unfoldable pub decimals_text : ℕ → List ℕ
decimals_text thousandths = if thousandths == 0 then [] else 46 ∷ without_last_zeros (three_digits thousandths)

-- the whole part, followed by the decimals
abbrev pub amount_text : ℕ → List ℕ
amount_text amount = decimal (amount / 1000) ++ decimals_text (amount % 1000)

-- ---- quantities

-- the name, `:` and the amount
abbrev pub quantity_text : Entry → Text
quantity_text e = e.label ++ 58 ∷ amount_text e.amount

-- each name with its amount, joined by `;`
abbrev pub quantities_text : List Entry → Text
quantities_text entries = join_with_byte 59 (map quantity_text entries)

-- ---- bundles

-- the two ends of an interval, joined by `-`
abbrev pub interval_text : Interval → Text
interval_text i = decimal i.first ++ 45 ∷ decimal i.last

-- the text between `[` and `]`
abbrev pub intervals_text : List Interval → Text
intervals_text intervals = join_with_byte 44 (map interval_text intervals)

-- the maximal intervals of the set, in ascending order
abbrev pub ranges_text : set.FinSet nat_cmp → Text
ranges_text numbers = 91 ∷ intervals_text (intervals_of numbers) ++ 93 ∷ []

-- the members of the set, in byte order
abbrev pub items_text : set.FinSet text_cmp → Text
items_text labels = 123 ∷ join_with_byte 44 (listed labels) ++ 125 ∷ []

abbrev pub value_text : Value → Text
value_text (Scalar thousandths) = amount_text thousandths
value_text (Ranges numbers) = ranges_text numbers
value_text (Items labels) = items_text labels

-- the name, and the role in parentheses if it is reserved
abbrev pub head_text : Resource → Text
head_text r = if is_default r.role then r.label else r.label ++ 40 ∷ text_of r.role ++ 41 ∷ []

-- the head, `:` and the value
abbrev pub resource_text : Resource → Text
resource_text r = head_text r ++ 58 ∷ value_text r.value

-- each resource in order, joined by `;`
unfoldable pub bundle_text : List Resource → Text
bundle_text bundle = join_with_byte 59 (map resource_text bundle)
