-- The statements that reading what was written gives the same value back.
use Rattle.std.specs.Prelude.{◌≡◌, ℕ, ◌^◌, ◌<◌, List, Ok, IsTrue, All}
use Rattle.drf_role.specs.Name.{IsLabel}
use Rattle.drf_bundle.specs.Bundle.{IsBundle}
use Rattle.drf_bundle.specs.Quantities.{is_in_order}
use Rattle.drf_bundle.specs.declared.quantities.Entry.{Entry}
use Rattle.drf_bundle.specs.declared.resource.Resource.{Resource}
use Rattle.drf_text.specs.Meaning.{meaning_of, quantities_meant}
use Rattle.drf_text.specs.Number.{weight_of}
use Rattle.drf_text.specs.Written.{amount_text, quantities_text, bundle_text}

-- reading the written form of a weight gives that weight
abbrev pub WeightIsRead : Type 0
WeightIsRead = (weight : ℕ) → weight < 2 ^ 64 → weight_of (amount_text weight) ≡ Ok weight

-- an entry has a valid name, and its amount is below 2^64 thousandths
pub record IsEntry (e : Entry) : Type 0 where
  pub label : IsLabel e.label
  pub amount : e.amount < 2 ^ 64

-- reading the written form of quantities gives those quantities
abbrev pub QuantitiesAreRead : Type 0
QuantitiesAreRead = (entries : List Entry) → IsTrue (is_in_order entries) → All IsEntry entries → quantities_meant (quantities_text entries) ≡ Ok entries

-- reading the written form of a bundle gives that bundle
abbrev pub BundleIsRead : Type 0
BundleIsRead = (bundle : List Resource) → IsBundle bundle → meaning_of (bundle_text bundle) ≡ Ok bundle
