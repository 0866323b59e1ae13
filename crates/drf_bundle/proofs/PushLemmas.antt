-- Appending a resource to a bundle.
use Rattle.std.specs.Prelude.{◌≡◌, ◌+◌, ◌<◌, ◌≤◌, ◌^◌, Bool, List, [], ◌∷◌, ◌++◌, IsTrue, All}
use Rattle.std.proofs.Common.{refl, sym, ap, ◌∙◌, subst, arith}
use Rattle.std.proofs.lemmas.Bool.{and_parts, and_from}
use Rattle.std.proofs.lemmas.List.Elements.{All-head, All-tail, All-nil, All-cons}
use Rattle.std.proofs.lemmas.List.Folds.{list_all-append}
use Rattle.drf_role.specs.TextLaws.{same_itself}
use Rattle.drf_bundle.specs.Value.{Point, Thousandths, units_in}
use Rattle.drf_bundle.specs.Bundle.{Key, key_of, key_below, is_in_order, units_where, stock, IsResource, IsBundle, HasSums, add_scalar, add_scalars, quantities_of}
use Rattle.drf_bundle.specs.laws.KeyLaws.{stands_first, unit_of, where-cons, unit-here}
use Rattle.drf_bundle.specs.laws.SumLaws.{of_name}
use Rattle.drf_bundle.proofs.theorems.SumLaws.{amount-add_scalar, amount-quantities_of, amount-kept}
use Rattle.drf_bundle.specs.laws.FitLaws.{fits_less}
use Rattle.drf_bundle.specs.Quantities.{amount_of}
use Rattle.drf_bundle.specs.declared.quantities.Entry.{Entry}
use Rattle.drf_bundle.specs.declared.resource.Resource.{Resource}
use Rattle.drf_bundle.proofs.MergeLemmas.{pushed}

-- ---- a prefix of a bundle is a bundle

prefix_in_order : (rs more : List Resource) → IsTrue (is_in_order (rs ++ more)) → IsTrue (is_in_order rs)
prefix_in_order [] more ordered = refl
prefix_in_order (r ∷ rs) more ordered =
    let parts = and_parts (stands_first (key_of r) (rs ++ more)) (is_in_order (rs ++ more)) ordered in
    let first : IsTrue (stands_first (key_of r) rs) =
    (and_parts (stands_first (key_of r) rs) (stands_first (key_of r) more) (sym (list_all-append (λ s. key_below (key_of r) (key_of s)) rs more) ∙ parts.0)).0 in
    and_from _ _ first (prefix_in_order rs more parts.1)

prefix_each : (rs more : List Resource) → All IsResource (rs ++ more) → All IsResource rs
prefix_each [] more all = All-nil IsResource
prefix_each (r ∷ rs) more all = All-cons IsResource r rs (All-head IsResource r (rs ++ more) all) (prefix_each rs more (All-tail IsResource r (rs ++ more) all))

prefix_units : (test : Key → Bool) (p : Point) (rs more : List Resource) → units_where test p rs ≤ units_where test p (rs ++ more)
prefix_units test p [] more = omega arith
prefix_units test p (r ∷ rs) more = omega (arith, where-cons test p r rs, where-cons test p r (rs ++ more), prefix_units test p rs more)

pub bundle-prefix : (rs more : List Resource) → IsBundle (rs ++ more) → IsBundle rs
bundle-prefix rs more is = record {
  in_order = prefix_in_order rs more is.in_order;
  each = prefix_each rs more is.each;
  fits = fits_less (stock (rs ++ more)) (stock rs) is.fits (λ name p. prefix_units (of_name name) p rs more);
}

-- what was found, with the next resource, is a prefix of the whole
pub bundle-next : (found left more whole : List Resource) (x y : Resource) → IsBundle whole → found ++ left ≡ whole → left ≡ y ∷ more → x ≡ y
    → IsBundle (found ++ x ∷ [])
bundle-next found left more whole x y is known next same =
    bundle-prefix (found ++ x ∷ []) more (subst IsBundle (sym (pushed found left more whole x y known next same)) is)

-- ---- the sums

sums-behind : (sums : List Entry) (rs : List Resource) (r : Resource) → add_scalars sums (rs ++ r ∷ []) ≡ add_scalar (add_scalars sums rs) r
sums-behind sums [] r = refl
sums-behind sums (s ∷ ss) r = sums-behind (add_scalar sums s) ss r

pub kept-push : (rs more : List Resource) (quantities sums : List Entry) (r : Resource) → HasSums rs quantities → IsBundle (rs ++ r ∷ [])
    → more ≡ rs ++ r ∷ [] → sums ≡ add_scalar quantities r → HasSums more sums
kept-push rs more quantities sums r kept is pushed sum = record {
  bundle = subst IsBundle (sym pushed) is;
  sums = sum ∙ ap (λ (q : List Entry). add_scalar q r) kept.sums ∙ sym (sums-behind [] rs r) ∙ ap quantities_of (sym pushed);
}

pub push_fits : (rs : List Resource) (quantities : List Entry) (r : Resource) → HasSums rs quantities → IsBundle (rs ++ r ∷ [])
    → amount_of quantities r.label + units_in r.value Thousandths < 2 ^ 64
push_fits rs quantities r kept is =
    let whole : amount_of (quantities_of (rs ++ r ∷ [])) r.label ≡ amount_of (quantities_of rs) r.label + unit_of (of_name r.label) Thousandths r
    = ap (λ (q : List Entry). amount_of q r.label) (sums-behind [] rs r) ∙ amount-add_scalar (quantities_of rs) r r.label in
    let here : unit_of (of_name r.label) Thousandths r ≡ units_in r.value Thousandths = unit-here (of_name r.label) Thousandths r (same_itself r.label) in
    omega (
      arith,
      whole,
      here,
      amount-quantities_of (rs ++ r ∷ []) r.label,
      amount-quantities_of rs r.label,
      amount-kept rs quantities r.label kept,
      is.fits.at_most r.label Thousandths,
    )
