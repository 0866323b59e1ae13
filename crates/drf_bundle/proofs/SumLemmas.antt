-- The steps of summing the scalars of each name.
use Rattle.std.specs.Prelude.{◌≡◌, ℕ, ◌+◌, ◌<◌, ◌^◌, List, [], ◌∷◌, length, drop}
use Rattle.std.proofs.Common.{refl, subst, arith, get_or}
use Rattle.drf_role.specs.Text.{Text}
use Rattle.drf_role.specs.TextLaws.{same_itself}
use Rattle.drf_bundle.specs.Value.{Thousandths, units_in}
use Rattle.drf_bundle.specs.Bundle.{stock, IsBundle, add_scalar, add_scalars, quantities_of}
use Rattle.drf_bundle.specs.laws.KeyLaws.{unit_of, where-cons, unit-here}
use Rattle.drf_bundle.specs.Quantities.{amount_of}
use Rattle.drf_bundle.specs.declared.quantities.Entry.{Entry}
use Rattle.drf_bundle.specs.declared.resource.Resource.{Resource}
use Rattle.drf_bundle.specs.laws.SumLaws.{of_name}
use Rattle.drf_bundle.proofs.theorems.SumLaws.{amount-add_scalar}
use Rattle.drf_bundle.proofs.MergeLemmas.{next_of}

pub record Summed (rs : List Resource) (sums : List Entry) (left : List Resource) : Type 0 where
  pub whole : add_scalars sums left ≡ quantities_of rs
  pub fits : (name : Text) → amount_of sums name + stock left name Thousandths < 2 ^ 64

pub sum_start : (rs : List Resource) → IsBundle rs → Summed rs [] rs
sum_start rs is = record { whole = refl; fits = λ name. omega (arith, is.fits.at_most name Thousandths) }

module _ (rs : List Resource) (sums : List Entry) (i : ℕ) (r : Resource) (in_range : i < length rs) (read : r ≡ get_or rs i r) (known : Summed rs sums (drop i rs)) where
  split : Summed rs sums (r ∷ drop (i + 1) rs)
  split = subst (Summed rs sums) (next_of rs i r in_range read) known

  pub sum_fits : amount_of sums r.label + units_in r.value Thousandths < 2 ^ 64
  sum_fits =
      let here : unit_of (of_name r.label) Thousandths r ≡ units_in r.value Thousandths = unit-here (of_name r.label) Thousandths r (same_itself r.label) in
      omega (arith, split.fits r.label, where-cons (of_name r.label) Thousandths r (drop (i + 1) rs))

  pub sum_more : Summed rs (add_scalar sums r) (drop (i + 1) rs)
  sum_more = record {
    whole = split.whole;
    fits = λ name. omega (arith, split.fits name, amount-add_scalar sums r name, where-cons (of_name name) Thousandths r (drop (i + 1) rs));
  }
