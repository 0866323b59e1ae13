-- Dominant shares as fractions: they grow with the held resources, and the share of a sum is at most the sum of the shares.
use Rattle.std.specs.Prelude.{◌≡◌, ℕ, zero, suc, Bool, true, false, if◌then◌else◌, map, slice_get, Some, ◌+◌, ◌*◌, ◌≤◌, List, [], ◌∷◌, nat_lt}
use Rattle.std.proofs.Common.{subst, ap, inl, inr, arith}
use Rattle.std.proofs.Math.Nat.{mul-le-mul_right, le_of_mul-le-mul_right, one-le-mul}
use Rattle.std.proofs.lemmas.Bool.{cases_Bool, ltb-true, ltb-false}
use Rattle.drf_role.specs.Text.{Text}
use Rattle.drf_bundle.specs.declared.quantities.Entry.{Entry}
use Rattle.drf_rows.specs.Share.{Fraction, is_less, greater, greatest}
use Rattle.drf_sorter.specs.Fractions.{dominant_of, weigh}
use Rattle.drf_sorter.proofs.theorems.OrderLaws.{greatest_above}
use Rattle.drf_promises.specs.Siblings.{AtMost, AtMostSum}

abbrev pub SomeWhole : Fraction → Type 0
SomeWhole f = 1 ≤ f.whole

-- ---- of two fractions

pub most_trans : (f g h : Fraction) → SomeWhole g → AtMost f g → AtMost g h → AtMost f h
most_trans f g h some first second =
    le_of_mul-le-mul_right {m = f.part * h.whole} {n = h.part * f.whole} {k = g.whole}
    (omega (arith, mul-le-mul_right h.whole first, mul-le-mul_right f.whole second)) some

pub greater_first : (f g : Fraction) → AtMost f (greater f g)
greater_first f g = elim (cases_Bool (is_less f g)) [
  | inl here ↦ rw here (let less = ltb-true (f.part * g.whole) (g.part * f.whole) here in omega (arith, less))
  | inr past ↦ rw past (omega arith)
]

pub greater_second : (f g : Fraction) → AtMost g (greater f g)
greater_second f g = elim (cases_Bool (is_less f g)) [
  | inl here ↦ rw here (omega arith)
  | inr past ↦ rw past (let more = ltb-false (f.part * g.whole) (g.part * f.whole) past in omega (arith, more))
]

-- a sum of two greater fractions is an upper bound too
pub sum_grows : (f g h k l : Fraction) → SomeWhole g → SomeWhole h → AtMostSum f g h → AtMost g k → AtMost h l → AtMostSum f k l
sum_grows f g h k l one two sum first second =
    le_of_mul-le-mul_right {m = f.part * (k.whole * l.whole)} {n = (k.part * l.whole + l.part * k.whole) * f.whole} {k = g.whole * h.whole}
    (omega (
      arith,
      mul-le-mul_right (k.whole * l.whole) sum,
      mul-le-mul_right (h.whole * (l.whole * f.whole)) first,
      mul-le-mul_right (g.whole * (k.whole * f.whole)) second,
    ))
    (one-le-mul one two)

-- ---- the greatest of some fractions

module _ {X : Type 0} (f : X → Fraction) (some : (x : X) → SomeWhole (f x)) where
  pub greatest_some : (xs : List X) → SomeWhole (greatest (map f xs))
  greatest_some [] = omega arith
  greatest_some (x ∷ xs) = by (is_less (f x) (greatest (map f xs))) (some x) (greatest_some xs)
    where
      by : (b : Bool) → SomeWhole (f x) → SomeWhole (greatest (map f xs)) → SomeWhole (if b then greatest (map f xs) else f x)
      by true one others = others
      by false one others = one

  pub greatest_of : (xs : List X) (place : ℕ) (x : X) → slice_get xs place ≡ Some x → AtMost (f x) (greatest (map f xs))
  greatest_of [] place x at = cc
  greatest_of (y ∷ ys) zero x at =
      let same : y ≡ x = cc in
      subst (λ (z : X). AtMost (f z) (greatest (map f (y ∷ ys)))) same (greater_first (f y) (greatest (map f ys)))
  greatest_of (y ∷ ys) (suc place) x at =
      most_trans (f x) (greatest (map f ys)) (greatest (map f (y ∷ ys))) (greatest_some ys) (greatest_of ys place x at)
      (greater_second (f y) (greatest (map f ys)))

-- ---- shares of the held resources

module _ (u v : Text → ℕ) (below : (label : Text) → u label ≤ v label) where
  -- a node that holds more has at least as great a share
  pub dominant_grows : (es : List Entry) → AtMost (dominant_of u es) (dominant_of v es)
  dominant_grows [] = omega arith
  dominant_grows (e ∷ es) = elim (cases_Bool (nat_lt 0 e.amount)) [
    | inl some ↦
        let f : Fraction = record { part = u e.label; whole = e.amount } in
        let g : Fraction = record { part = v e.label; whole = e.amount } in
        let whole : SomeWhole g = ltb-true 0 e.amount some in
        rw some
        (most_of_both f g (dominant_of u es) (dominant_of v es) whole (greatest_above v es)
        (mul-le-mul_right e.amount (below e.label)) (dominant_grows es))
    | inr none ↦ rw none (dominant_grows es)
  ]
    where
      most_of_both : (f g r s : Fraction) → SomeWhole g → SomeWhole s → AtMost f g → AtMost r s → AtMost (greater f r) (greater g s)
      most_of_both f g r s one two first second = elim (cases_Bool (is_less f r)) [
        | inl here ↦ rw here (most_trans r s (greater g s) two second (greater_second g s))
        | inr past ↦ rw past (most_trans f g (greater g s) one first (greater_first g s))
      ]

-- the share of a sum is at most the sum of the shares
pub dominant_sum : (u v w : Text → ℕ) → ((label : Text) → u label ≡ v label + w label) → (es : List Entry)
    → AtMostSum (dominant_of u es) (dominant_of v es) (dominant_of w es)
dominant_sum u v w adds [] = omega arith
dominant_sum u v w adds (e ∷ es) = elim (cases_Bool (nat_lt 0 e.amount)) [
  | inl some ↦
      let f : Fraction = record { part = u e.label; whole = e.amount } in
      let g : Fraction = record { part = v e.label; whole = e.amount } in
      let h : Fraction = record { part = w e.label; whole = e.amount } in
      let whole : SomeWhole g = ltb-true 0 e.amount some in
      let sum : AtMostSum f g h = omega (arith, ap (λ n. n * (e.amount * e.amount)) (adds e.label)) in
      rw some
      (sum_of_both f g h (dominant_of u es) (dominant_of v es) (dominant_of w es) whole whole (greatest_above v es) (greatest_above w es)
      sum (dominant_sum u v w adds es))
  | inr none ↦ rw none (dominant_sum u v w adds es)
]
  where
    sum_of_both : (f g h r s t : Fraction) → SomeWhole g → SomeWhole h → SomeWhole s → SomeWhole t → AtMostSum f g h → AtMostSum r s t
        → AtMostSum (greater f r) (greater g s) (greater h t)
    sum_of_both f g h r s t one two three four first second = elim (cases_Bool (is_less f r)) [
      | inl here ↦ rw here (sum_grows r s t (greater g s) (greater h t) three four second (greater_second g s) (greater_second h t))
      | inr past ↦ rw past (sum_grows f g h (greater g s) (greater h t) one two first (greater_first g s) (greater_first h t))
    ]

-- ---- weighted shares

-- with a smaller weight a share is at least as great
pub weighed_grows : (f g : Fraction) (w v : ℕ) → AtMost f g → v ≤ w → AtMost (weigh f w) (weigh g v)
weighed_grows f g w v most less =
    omega (arith, mul-le-mul_right (1000 * v) most, mul-le-mul_right (1000 * (g.part * f.whole)) less)

-- a node passes a sibling by at most what it received
pub weighed_sum : (S H B Y : Fraction) (a b : ℕ) → SomeWhole H → AtMostSum S H B → AtMost (weigh H a) (weigh Y b)
    → AtMostSum (weigh S a) (weigh Y b) (weigh B a)
weighed_sum S H B Y a b one sum before =
    le_of_mul-le-mul_right {m = S.part * 1000 * ((Y.whole * b) * (B.whole * a))}
    {n = ((Y.part * 1000) * (B.whole * a) + (B.part * 1000) * (Y.whole * b)) * (S.whole * a)} {k = H.whole}
    (omega (
      arith,
      mul-le-mul_right (1000 * (Y.whole * (b * a))) sum,
      mul-le-mul_right (B.whole * (S.whole * a)) before,
    ))
    one
