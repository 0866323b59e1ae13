-- A bundle of one resource.
use Rattle.std.specs.Prelude.{◌≡◌, ℕ, ◌≤◌, Bool, true, false, [], ◌∷◌, nat_lt}
use Rattle.std.proofs.Common.{refl, sym, ◌∙◌, inl, inr, cond, arith}
use Rattle.std.proofs.lemmas.Bool.{cases_Bool, ltb-true}
use Rattle.std.proofs.lemmas.List.Elements.{All-nil, All-cons}
use Rattle.drf_role.specs.Text.{Text, same_text}
use Rattle.drf_role.specs.Name.{IsLabel}
use Rattle.drf_role.specs.Parts.{parts_of, text_of}
use Rattle.drf_role.specs.Path.{Path}
use Rattle.drf_role.specs.Role.{IsRole}
use Rattle.drf_bundle.specs.Value.{Point, units_in, is_same_kind, amount_in, IsGiven}
use Rattle.drf_bundle.specs.laws.ValueLaws.{kind_at}
use Rattle.drf_bundle.proofs.theorems.ValueLaws.{units-most}
use Rattle.drf_bundle.specs.Bundle.{stock, IsResource, IsBundle, one_of}
use Rattle.drf_bundle.specs.laws.KeyLaws.{where-cons}
use Rattle.drf_bundle.specs.laws.BundleLaws.{bundle-empty}
use Rattle.drf_bundle.specs.declared.resource.Resource.{Resource}
use Rattle.drf_bundle.specs.declared.value.Value.{Value}
use Rattle.drf_bundle.specs.declared.value.Value.TheVariants.{Scalar, Ranges, Items}

same_kind_itself : (v : Value) → is_same_kind v v ≡ true
same_kind_itself (Scalar a) = refl
same_kind_itself (Ranges a) = refl
same_kind_itself (Items a) = refl

at_most_its_own : (test : Bool) (n : ℕ) → cond test n 0 ≤ n
at_most_its_own true n = omega arith
at_most_its_own false n = omega arith

stock_of_one : (r : Resource) (name : Text) (p : Point) → stock (r ∷ []) name p ≤ units_in r.value p
stock_of_one r name p = omega (arith, where-cons (λ key. same_text name key.0) p r [], at_most_its_own (same_text name r.label) (units_in r.value p))

pub bundle-one : (r : Resource) → IsResource r → IsBundle (r ∷ [])
bundle-one r is = record {
  in_order = refl;
  each = All-cons IsResource r [] is (All-nil IsResource);
  fits = record {
    one_kind = λ name p q some other.
        sym (kind_at r.value r.value p q (omega (arith, some, stock_of_one r name p)) (omega (arith, other, stock_of_one r name q))) ∙ same_kind_itself r.value;
    at_most = λ name p. omega (arith, stock_of_one r name p, units-most r.value p is.value);
  };
}

-- one resource, or none if its value is empty, is a bundle
pub bundle-one_of : (label : Text) (role : Path) (value : Value) → IsLabel label → IsRole role
    → parts_of (text_of role) ≡ role → IsGiven value → IsBundle (one_of label role value)
bundle-one_of label role value is_label is_role read given = elim (cases_Bool (nat_lt 0 (amount_in value))) [
  | inl some ↦ rw some (bundle-one (record { label = label; role = role; value = value })
      (record { label = is_label; role = is_role; role_read = read; value = given; filled = ltb-true 0 (amount_in value) some }))
  | inr none ↦ rw none bundle-empty
]
