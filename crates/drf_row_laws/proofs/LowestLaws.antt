-- Each fraction has exactly one form in lowest terms, which `lowest_terms` computes.
use Rattle.std.proofs.Common.{◌≡◌, ◌≢◌, ◌<◌, ◌≤◌, ◌+◌, ◌*◌, ◌/◌, ◌%◌, ◌^◌, ◌==◌, ℕ, zero, suc, IsTrue, refl, sym, ap, subst, ◌∙◌, inl, inr, arith}
use Rattle.std.specs.Int.{◌∣◌, IsGcd}
use Rattle.std.proofs.Math.Nat.{mul_assoc, mul_right_comm, mul-one, one-mul, zero-mul, add-mul, mul-le-mul_right, two-pow-succ, mod-lt, dvd-add_iff_right, dvd-mul_left, dvd-mul_right, dvd-mul_left_of_dvd, div-mul_cancel, eq-zero_of_zero-dvd, eq_of_mul-eq-mul_right}
use Rattle.std.proofs.lemmas.Nat.{div-add-mod'}
use Rattle.std.proofs.lemmas.Nat.Gcd.{IsGcd-from_zero, IsGcd-swap, same_from_IsGcd, dvd_antisymm}
use Rattle.std.proofs.lemmas.Bool.{cases_Bool, eqb-true, eqb-false, eq-eqb}
use Rattle.drf_rows.specs.Share.{Fraction, is_same, IsLowest, divisor_within, common_divisor, lowest_terms}

-- ---- the greatest common divisor, with a factor

-- one division with remainder
step_by : (a b k g : ℕ) → IsGcd (b * k) (a % b * k) g → IsGcd (a * k) (b * k) g
step_by a b k g h =
    let whole : a / b * (b * k) + a % b * k ≡ a * k =
    ap (λ n. n + a % b * k) (sym (mul_assoc (a / b) b k)) ∙ sym (add-mul (a / b * b) (a % b) k)
    ∙ ap (λ n. n * k) (div-add-mod' a b) in (
      subst (λ n. g ∣ n) whole ((dvd-add_iff_right g (dvd-mul_left_of_dvd g h.0 (a / b))).0 h.1),
      h.0,
      λ d p q. h.2 d q ((dvd-add_iff_right d (dvd-mul_left_of_dvd d q (a / b))).1 (subst (λ n. d ∣ n) (sym whole) p)),
    )

-- two divisions halve a number
halved : (a b : ℕ) → 0 < a % b → 0 < b → b % (a % b) + b % (a % b) < b
halved a b rest some =
    let r = a % b in
    let below : r < b = mod-lt a some in
    let whole : b / r * r + b % r ≡ b = div-add-mod' b r in
    let less : b % r < r = mod-lt b rest in
    let times : 1 ≤ b / r = quotient-above b r below whole less in
    let once : 1 * r ≤ b / r * r = mul-le-mul_right r times in
    omega (arith, whole, less, once, one-mul r)
  where
    quotient-above : (b r : ℕ) → r < b → b / r * r + b % r ≡ b → b % r < r → 1 ≤ b / r
    quotient-above b r below whole less = of (b / r) whole
      where
        of : (q : ℕ) → q * r + b % r ≡ b → 1 ≤ q
        of zero whole = absurd (omega (arith, whole, below, less, zero-mul r))
        of (suc q) whole = omega arith

-- if b is below 2^steps, so many steps lead to the greatest common divisor
divisor-by : (steps a b k : ℕ) → b < 2 ^ steps → IsGcd (a * k) (b * k) (divisor_within steps a b * k)
divisor-by zero a b k small =
    let none : b ≡ 0 = omega (arith, small) in
    IsGcd-from_zero (a * k) (b * k) (ap (λ n. n * k) none ∙ zero-mul k)
divisor-by (suc steps) a b k small = elim (cases_Bool (b == 0)) [
  | inl none ↦ rw none (IsGcd-from_zero (a * k) (b * k) (ap (λ n. n * k) (eqb-true b 0 none) ∙ zero-mul k))
  | inr some ↦
      let other : b ≢ 0 = eqb-false b 0 some in
      elim (cases_Bool (a % b == 0)) [
        | inl done ↦
            rw (some, done)
            (step_by a b k (b * k)
            (IsGcd-from_zero (b * k) (a % b * k) (ap (λ n. n * k) (eqb-true (a % b) 0 done) ∙ zero-mul k)))
        | inr more ↦
            let rest : a % b ≢ 0 = eqb-false (a % b) 0 more in
            let half = halved a b (omega (arith, rest)) (omega (arith, other)) in
            let below : b % (a % b) < 2 ^ steps = omega (arith, half, small, two-pow-succ steps) in
            rw (some, more)
            (step_by a b k (divisor_within steps (a % b) (b % (a % b)) * k)
            (step_by b (a % b) k (divisor_within steps (a % b) (b % (a % b)) * k)
            (divisor-by steps (a % b) (b % (a % b)) k below)))
      ]
]

-- n is below 2^n
below_power : (n : ℕ) → n < 2 ^ n
below_power zero = omega arith
below_power (suc n) = omega (arith, below_power n, two-pow-succ n)

divisor-of : (steps a b : ℕ) → b < 2 ^ steps → IsGcd a b (divisor_within steps a b)
divisor-of steps a b small =
    rw (mul-one a, mul-one b, mul-one (divisor_within steps a b)) at (divisor-by steps a b 1 small)

divisor-some : (a b : ℕ) → IsGcd a b (divisor_within b a b)
divisor-some a b = divisor-of b a b (below_power b)

divisor-is : (a b : ℕ) → b < 2 ^ 128 → IsGcd a b (common_divisor a b)
unfolding common_divisor
divisor-is a b small = divisor-of 128 a b small

pub IsGcd-times : (a b g k : ℕ) → IsGcd a b g → IsGcd (a * k) (b * k) (g * k)
IsGcd-times a b g k is =
    subst (λ n. IsGcd (a * k) (b * k) (n * k))
    (same_from_IsGcd a b (divisor_within b a b) g (divisor-some a b) is)
    (divisor-by b a b k (below_power b))

pub divisor-above : (a b g : ℕ) → 1 ≤ b → IsGcd a b g → 1 ≤ g
divisor-above a b zero some is = absurd (omega (arith, eq-zero_of_zero-dvd is.1))
divisor-above a b (suc n) some is = omega arith

-- ---- one form in lowest terms

-- equality of fractions is transitive
same_through : (a b c : Fraction) → 1 ≤ b.whole → a.part * b.whole ≡ b.part * a.whole
    → b.part * c.whole ≡ c.part * b.whole → a.part * c.whole ≡ c.part * a.whole
same_through a b c some first second =
    eq_of_mul-eq-mul_right b.whole some (a.part * c.whole) (c.part * a.whole)
    (mul_right_comm a.part c.whole b.whole
    ∙ ap (λ n. n * c.whole) first
    ∙ mul_right_comm b.part a.whole c.whole
    ∙ ap (λ n. n * a.whole) second
    ∙ mul_right_comm c.part b.whole a.whole)

-- a number that divides a product and has no common divisor with one factor divides the other
divides_other : (p q r s : ℕ) → IsGcd p q 1 → p * s ≡ r * q → q ∣ s
divides_other p q r s apart product =
    let times = IsGcd-times p q 1 s apart in
    subst (λ n. q ∣ n) (one-mul s)
    (times.2 q (subst (λ n. q ∣ n) (sym product) (dvd-mul_left q r)) (dvd-mul_right q s))

pub lowest-unique : (f a b : Fraction) → 1 ≤ f.whole → IsLowest f a → IsLowest f b → a ≡ b
lowest-unique f a b some p q =
    let first = eqb-true (a.part * f.whole) (f.part * a.whole) p.same in
    let second = eqb-true (b.part * f.whole) (f.part * b.whole) q.same in
    let cross = same_through a f b some first (sym second) in
    let whole =
    dvd_antisymm (divides_other a.part a.whole b.part b.whole p.reduced cross)
    (divides_other b.part b.whole a.part a.whole q.reduced (sym cross)) in
    let part = eq_of_mul-eq-mul_right b.whole q.some a.part b.part (cross ∙ ap (λ n. b.part * n) whole) in
    λ i. record { part = part i; whole = whole i }

-- a fraction is in lowest terms after dividing by the greatest common divisor
pub IsLowest-by : (f : Fraction) (g : ℕ) → 1 ≤ f.whole → IsGcd f.part f.whole g
    → IsLowest f (record { part = f.part / g; whole = f.whole / g })
IsLowest-by f g some is =
    let above = divisor-above f.part f.whole g some is in
    let x = f.part / g in
    let y = f.whole / g in
    let part : x * g ≡ f.part = div-mul_cancel g is.0 in
    let whole : y * g ≡ f.whole = div-mul_cancel g is.1 in
    let rest = divisor_within y x y in
    let times : IsGcd f.part f.whole (rest * g) = rw (part, whole) at (IsGcd-times x y rest g (divisor-some x y)) in
    let one : rest ≡ 1 =
    eq_of_mul-eq-mul_right g above rest 1 (same_from_IsGcd f.part f.whole (rest * g) g times is ∙ sym (one-mul g)) in
    record {
      same = eq-eqb (x * f.whole) (f.part * y)
          (ap (λ n. x * n) (sym whole) ∙ sym (mul_assoc x y g) ∙ sym (mul_right_comm x g y) ∙ ap (λ n. n * y) part);
      reduced = subst (λ n. IsGcd x y n) one (divisor-some x y);
      some = factor_above y g (omega (arith, whole));
    }
  where
    factor_above : (y g : ℕ) → 1 ≤ y * g → 1 ≤ y
    factor_above zero g h = absurd (omega (arith, h))
    factor_above (suc y) g h = omega arith

pub lowest_terms-is : (f : Fraction) → 1 ≤ f.whole → f.whole < 2 ^ 128 → IsLowest f (lowest_terms f)
lowest_terms-is f some small =
    IsLowest-by f (common_divisor f.part f.whole) some (divisor-is f.part f.whole small)

pub lowest_terms-by : (f : Fraction) (g : ℕ) → 1 ≤ f.whole → f.whole < 2 ^ 128 → IsGcd f.part f.whole g
    → record { part = f.part / g; whole = f.whole / g } ≡ lowest_terms f
lowest_terms-by f g some small is =
    lowest-unique f (record { part = f.part / g; whole = f.whole / g }) (lowest_terms f) some
    (IsLowest-by f g some is) (lowest_terms-is f some small)

-- equal fractions have the same form in lowest terms
pub lowest_terms-same : (f g : Fraction) → 1 ≤ f.whole → f.whole < 2 ^ 128 → 1 ≤ g.whole → g.whole < 2 ^ 128
    → IsTrue (is_same f g) → lowest_terms f ≡ lowest_terms g
lowest_terms-same f g some_f small_f some_g small_g same =
    let form = lowest_terms-is g some_g small_g in
    let terms = lowest_terms g in
    let there = eqb-true (terms.part * g.whole) (g.part * terms.whole) form.same in
    let back = eqb-true (f.part * g.whole) (g.part * f.whole) same in
    lowest-unique f (lowest_terms f) terms some_f (lowest_terms-is f some_f small_f) (record {
      same = eq-eqb (terms.part * f.whole) (f.part * terms.whole) (same_through terms g f some_g there (sym back));
      reduced = form.reduced;
      some = form.some;
    })

pub lowest_terms-nothing : (whole : ℕ) → 1 ≤ whole → whole < 2 ^ 128
    → lowest_terms (record { part = 0; whole = whole }) ≡ record { part = 0; whole = 1 }
lowest_terms-nothing whole some small =
    let f : Fraction = record { part = 0; whole = whole } in
    lowest-unique f (lowest_terms f) (record { part = 0; whole = 1 }) some (lowest_terms-is f some small) (record {
      same = eq-eqb (0 * whole) (0 * 1) (omega arith);
      reduced = IsGcd-swap 1 0 1 (IsGcd-from_zero 1 0 refl);
      some = omega arith;
    })
