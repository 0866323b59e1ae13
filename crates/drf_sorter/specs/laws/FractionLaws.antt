-- Fractions whose denominators are above 0 are in a total order.
use Rattle.std.proofs.Common.{◌≡◌, ℕ, ◌*◌, ◌<◌, ◌≤◌, sym, ap, subst, ◌∙◌, arith}
use Rattle.std.proofs.Math.Nat.{mul_right_comm, mul-le-mul_right, mul-lt-mul_of_pos_right}
use Rattle.std.specs.declared.cmp.Ordering.{Ordering}
use Rattle.std.specs.declared.cmp.Ordering.TheVariants.{Less, Equal, Greater}
use Rattle.std.specs.Ordering.{nat_cmp, is_eq, ordering_reverse, MatchOrdering}
use Rattle.std.specs.Cmp.{nat_cmp_total, ranks, nat_cmp_is, unsigned_tied}
use Rattle.drf_rows.specs.Share.{Fraction, is_same}
use Rattle.drf_sorter.specs.Fractions.{fraction_cmp}

pub product_above : (n m : ℕ) → 1 ≤ n → 1 ≤ m → 0 < n * m
product_above n m h k = let bound : 1 * m ≤ n * m = mul-le-mul_right m h in omega arith

scaled : (x y k : ℕ) → 0 < k → (r : Ordering) → MatchOrdering r (x < y) (x ≡ y) (y < x)
    → MatchOrdering r (x * k < y * k) (x * k ≡ y * k) (y * k < x * k)
scaled x y k p Less h = mul-lt-mul_of_pos_right h p
scaled x y k p Equal h = ap (λ n. n * k) h
scaled x y k p Greater h = mul-lt-mul_of_pos_right h p

-- a common factor does not matter
pub nat_cmp-scale : (x y k : ℕ) → 0 < k → nat_cmp x y ≡ nat_cmp (x * k) (y * k)
nat_cmp-scale x y k p = nat_cmp_is (x * k) (y * k) (nat_cmp x y) (scaled x y k p (nat_cmp x y) (ranks x y))

pub is_eq-fraction_cmp : (a b : Fraction) → is_eq (fraction_cmp a b) ≡ is_same a b
is_eq-fraction_cmp a b = unsigned_tied (a.part * b.whole) (b.part * a.whole)

pub fraction_cmp-antisymm : (a b : Fraction) → fraction_cmp a b ≡ ordering_reverse (fraction_cmp b a)
fraction_cmp-antisymm a b = nat_cmp_total.antisymm (a.part * b.whole) (b.part * a.whole)

pub fraction_cmp-trans : (a b c : Fraction) → 0 < a.whole → 0 < b.whole → 0 < c.whole → fraction_cmp a b ≡ Less
    → fraction_cmp b c ≡ Less → fraction_cmp a c ≡ Less
fraction_cmp-trans a b c p q r h k =
    let first = sym (nat_cmp-scale (a.part * b.whole) (b.part * a.whole) c.whole r) ∙ h in
    let second = sym (nat_cmp-scale (b.part * c.whole) (c.part * b.whole) a.whole p) ∙ k in
    let middle : b.part * c.whole * a.whole ≡ b.part * a.whole * c.whole = mul_right_comm b.part c.whole a.whole in
    let both =
    nat_cmp_total.trans (a.part * b.whole * c.whole) (b.part * a.whole * c.whole) (c.part * b.whole * a.whole) first
    (ap (λ n. nat_cmp n (c.part * b.whole * a.whole)) (sym middle) ∙ second) in
    nat_cmp-scale (a.part * c.whole) (c.part * a.whole) b.whole q
    ∙ ap (λ n. nat_cmp n (c.part * a.whole * b.whole)) (mul_right_comm a.part c.whole b.whole)
    ∙ ap (λ n. nat_cmp (a.part * b.whole * c.whole) n) (mul_right_comm c.part a.whole b.whole)
    ∙ both

-- numbers that tie are equal
pub same_from_nat_cmp : (x y : ℕ) → nat_cmp x y ≡ Equal → x ≡ y
same_from_nat_cmp x y h = subst (λ r. MatchOrdering r (x < y) (x ≡ y) (y < x)) h (ranks x y)

pub fraction_cmp-congr : (a b c : Fraction) → 0 < a.whole → 0 < b.whole → 0 < c.whole → fraction_cmp a b ≡ Equal
    → fraction_cmp a c ≡ fraction_cmp b c
fraction_cmp-congr a b c p q r h =
    let tied = same_from_nat_cmp (a.part * b.whole) (b.part * a.whole) h in
    let left =
    mul_right_comm a.part c.whole b.whole ∙ ap (λ n. n * c.whole) tied ∙ mul_right_comm b.part a.whole c.whole in
    nat_cmp-scale (a.part * c.whole) (c.part * a.whole) b.whole q
    ∙ ap (λ n. nat_cmp n (c.part * a.whole * b.whole)) left
    ∙ ap (λ n. nat_cmp (b.part * c.whole * a.whole) n) (mul_right_comm c.part a.whole b.whole)
    ∙ sym (nat_cmp-scale (b.part * c.whole) (c.part * b.whole) a.whole p)
