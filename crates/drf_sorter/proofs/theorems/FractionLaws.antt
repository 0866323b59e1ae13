-- Lemmas about `specs/laws/FractionLaws.antt`.
use Rattle.std.proofs.Common.{◌≡◌, ℕ, ◌*◌, Bool, true, false, cond, nat_lt, ◌==◌, refl, ap, ◌∙◌}
use Rattle.std.proofs.Math.Nat.{mul_right_comm, mul_assoc}
use Rattle.std.specs.declared.cmp.Ordering.TheVariants.{Less, Equal, Greater}
use Rattle.std.specs.Ordering.{nat_cmp, is_lt}
use Rattle.std.proofs.lemmas.Bool.{eq-eqb}
use Rattle.drf_rows.specs.Share.{Fraction, is_less, is_same}
use Rattle.drf_sorter.specs.Fractions.{fraction_cmp, weigh}

is_lt-cases : (a b : Bool) → is_lt (cond a Less (cond b Equal Greater)) ≡ a
is_lt-cases true b = refl
is_lt-cases false true = refl
is_lt-cases false false = refl

pub is_lt-nat_cmp : (x y : ℕ) → is_lt (nat_cmp x y) ≡ nat_lt x y
is_lt-nat_cmp x y = is_lt-cases (nat_lt x y) (x == y)

-- the two tests of fractions agree with their comparison
pub is_lt-fraction_cmp : (a b : Fraction) → is_lt (fraction_cmp a b) ≡ is_less a b
is_lt-fraction_cmp a b = is_lt-nat_cmp (a.part * b.whole) (b.part * a.whole)

-- a weight of 1000 thousandths changes nothing
pub same_as_weighed : (f g : Fraction) → f ≡ weigh g 1000 → is_same f g ≡ true
same_as_weighed f g is =
    ap (λ h. is_same h g) is
    ∙ eq-eqb (g.part * 1000 * g.whole) (g.part * (g.whole * 1000))
    (mul_right_comm g.part 1000 g.whole ∙ mul_assoc g.part g.whole 1000)
