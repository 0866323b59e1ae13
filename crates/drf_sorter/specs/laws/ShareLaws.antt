-- Theorems about the order of shares.
use Rattle.std.proofs.Common.{◌≡◌, ◌<◌, ◌≤◌, ◌*◌, ◌^◌, arith, ◌∙◌, sym, refl}
use Rattle.std.proofs.Math.Nat.{mul-le-mul}
use Rattle.std.specs.Cmp.{IsTotalOrder, IsEquivalence, IsPartialOrder, partial_order_from_agreeing_total}
use Rattle.std.specs.Ordering.{eq_by_cmp, as_partial_cmp}
use Rattle.std.proofs.lemmas.Cmp.{eq_by_cmp_equiv}
use Rattle.drf_sorter.specs.declared.share.Share.{Share}
use Rattle.drf_sorter.specs.laws.FractionLaws.{fraction_cmp-antisymm, fraction_cmp-trans, fraction_cmp-congr, product_above, is_eq-fraction_cmp}
use Rattle.drf_sorter.specs.Share.{fraction_of, share_cmp, share_eq}

pub above_zero : (s : Share) → 0 < (fraction_of s).whole
above_zero s = product_above s.whole s.weight s.some s.weighs

pub below_128 : (s : Share) → (fraction_of s).whole < 2 ^ 128
below_128 s =
    let product : s.whole * s.weight ≤ 2 ^ 52 * 1000000 =
    mul-le-mul {n₁ = s.whole} {m₁ = s.weight} {n₂ = 2 ^ 52} {m₂ = 1000000} (omega (arith, s.fits)) s.light in
    omega (arith, product)

pub share_total : IsTotalOrder share_cmp
share_total = record {
  antisymm = λ a b. fraction_cmp-antisymm (fraction_of a) (fraction_of b);
  trans = λ a b c. fraction_cmp-trans (fraction_of a) (fraction_of b) (fraction_of c) (above_zero a) (above_zero b)
      (above_zero c);
  congr = λ a b c. fraction_cmp-congr (fraction_of a) (fraction_of b) (fraction_of c) (above_zero a) (above_zero b)
      (above_zero c);
}

pub share_ties : (a b : Share) → share_eq a b ≡ eq_by_cmp share_cmp a b
share_ties a b = sym (is_eq-fraction_cmp (fraction_of a) (fraction_of b))

pub share_equiv : IsEquivalence share_eq
share_equiv =
    let tied = eq_by_cmp_equiv share_total in
    record {
      refl = λ a. share_ties a a ∙ tied.refl a;
      symm = λ a b. share_ties a b ∙ tied.symm a b ∙ sym (share_ties b a);
      congr = λ a b c h. share_ties a c ∙ tied.congr a b c (sym (share_ties a b) ∙ h) ∙ sym (share_ties b c);
    }

pub share_partial : IsPartialOrder share_eq (as_partial_cmp share_cmp)
share_partial = partial_order_from_agreeing_total share_cmp share_total (λ a b. refl) share_ties
