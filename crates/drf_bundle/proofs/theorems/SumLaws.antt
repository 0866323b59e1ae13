-- Lemmas about `specs/laws/SumLaws.antt`.
use Rattle.std.specs.Prelude.{◌≡◌, ℕ, ◌+◌, Bool, true, false, List, [], ◌∷◌}
use Rattle.std.proofs.Common.{refl, sym, ap, ◌∙◌, inl, inr, cond, arith}
use Rattle.drf_role.specs.Text.{Text, same_text}
use Rattle.drf_role.specs.TextLaws.{test_from_same}
use Rattle.drf_role.proofs.TextLaws.{test_from_other, cases_same}
use Rattle.drf_bundle.specs.Value.{Thousandths}
use Rattle.drf_bundle.specs.Bundle.{HasSums, stock, with_value, add_scalar, add_scalars, quantities_of}
use Rattle.drf_bundle.specs.laws.KeyLaws.{unit_of, where-cons, unit-here, unit-none}
use Rattle.drf_bundle.specs.Quantities.{amount_of, with_amount}
use Rattle.drf_bundle.proofs.theorems.QuantitiesLaws.{amount-with}
use Rattle.drf_bundle.specs.declared.quantities.Entry.{Entry}
use Rattle.drf_bundle.specs.declared.resource.Resource.{Resource}
use Rattle.drf_bundle.specs.declared.value.Value.{Value}
use Rattle.drf_bundle.specs.declared.value.Value.TheVariants.{Scalar, Ranges, Items}
use Rattle.drf_bundle.specs.laws.SumLaws.{of_name}

pub nothing : (b : Bool) (n : ℕ) → n ≡ 0 → cond b n 0 ≡ n
nothing true n e = refl
nothing false n e = sym e

-- a scalar adds only to its own name
pub amount-add_scalar : (sums : List Entry) (r : Resource) (name : Text)
    → amount_of (add_scalar sums r) name ≡ amount_of sums name + unit_of (of_name name) Thousandths r
amount-add_scalar sums r name = by r.value
  where
    by : (v : Value)
        → amount_of (add_scalar sums (with_value r v)) name ≡ amount_of sums name + unit_of (of_name name) Thousandths (with_value r v)
    by (Scalar t) = elim (cases_same r.label name) [
      | inl same ↦
          let named : same_text name r.label ≡ true = test_from_same name r.label (sym same.1) in
          let set_to : amount_of (with_amount sums r.label (amount_of sums r.label + t)) name ≡ amount_of sums r.label + t = amount-with sums r.label (amount_of sums r.label + t) name ∙ rw same.0 refl in
          omega (arith, set_to, unit-here (of_name name) Thousandths (with_value r (Scalar t)) named, ap (amount_of sums) same.1)
      | inr other ↦
          let unnamed : same_text name r.label ≡ false = test_from_other name r.label (λ e. other.1 (sym e)) in
          let set_to : amount_of (with_amount sums r.label (amount_of sums r.label + t)) name ≡ amount_of sums name = amount-with sums r.label (amount_of sums r.label + t) name ∙ rw other.0 refl in
          omega (arith, set_to, unit-none (of_name name) Thousandths (with_value r (Scalar t)) unnamed)
    ]
    by (Ranges a) = omega (arith, nothing (same_text name r.label) 0 refl)
    by (Items a) = omega (arith, nothing (same_text name r.label) 0 refl)

pub amount-add_scalars : (sums : List Entry) (rs : List Resource) (name : Text)
    → amount_of (add_scalars sums rs) name ≡ amount_of sums name + stock rs name Thousandths
amount-add_scalars sums [] name = omega arith
amount-add_scalars sums (r ∷ rs) name =
    omega (arith, amount-add_scalars (add_scalar sums r) rs name, amount-add_scalar sums r name, where-cons (of_name name) Thousandths r rs)

-- the quantity of a name is the sum of its scalars over all reservations
pub amount-quantities_of : (rs : List Resource) (name : Text)
    → amount_of (quantities_of rs) name ≡ stock rs name Thousandths
amount-quantities_of rs name = omega (arith, amount-add_scalars [] rs name)

-- the same for the sums that a bundle stores
pub amount-kept : (rs : List Resource) (quantities : List Entry) (name : Text) → HasSums rs quantities
    → amount_of quantities name ≡ stock rs name Thousandths
amount-kept rs quantities name kept = ap (λ (q : List Entry). amount_of q name) kept.sums ∙ amount-quantities_of rs name
