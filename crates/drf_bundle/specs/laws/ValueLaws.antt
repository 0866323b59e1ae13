-- The units of values, and what they determine.
use Rattle.std.specs.Prelude.{◌≡◌, ℕ, ◌+◌, ◌-◌, ◌<◌, ◌≤◌, ◌&&◌, ◌||◌, Bool, true, false, not}
use Rattle.std.proofs.Common.{refl, sym, ap, ◌∙◌, subst, cond, arith, suc, zero}
use Rattle.std.specs.declared.cmp.Ordering.{Ordering}
use Rattle.std.specs.Cmp.{IsTotalOrder, nat_cmp_total}
use Rattle.std.specs.Cmp.Lexicographic.{nat_list_cmp_total}
use Rattle.std.specs.FinSet as set
use Rattle.std.proofs.lemmas.Bool.{true≢false, false≢true, not-true, not-false}
use Rattle.drf_kinds.specs.Names.{text_cmp}
use Rattle.drf_kinds.specs.Sets.{are_disjoint}
use Rattle.drf_kinds.specs.SetLaws as sets
use Rattle.drf_bundle.specs.Value.{Point, Thousandths, Number, Member, units_in, most, is_one_kind, amount_in, IsGiven, is_same_kind, share_members, united}
use Rattle.drf_bundle.specs.declared.value.Value.{Value}
use Rattle.drf_bundle.specs.declared.value.Value.TheVariants.{Scalar, Ranges, Items}

-- two values of a name can be joined
pub record AreJoinable (v w : Value) : Type 0 where
  pub same_kind : is_same_kind v w ≡ true
  pub apart : share_members v w ≡ false

pub texts_apart : set.IsAntisymmetric text_cmp
texts_apart = set.slice_cmp-IsAntisymmetric set.nat_cmp-IsAntisymmetric

-- ---- units of finite sets: 1 for each member

abbrev pub unit : Bool → ℕ
unit is = cond is 1 0

unit_or : (x y : Bool) → (x && y) ≡ false → unit (x || y) ≡ unit x + unit y
unit_or true true e = absurd (true≢false e)
unit_or true false e = refl
unit_or false true e = refl
unit_or false false e = refl

or_within : (x y : Bool) → (unit x ≤ unit (x || y)) × (unit (x || y) ≤ unit x + unit y)
or_within true true = (omega arith, omega arith)
or_within true false = (omega arith, omega arith)
or_within false true = (omega arith, omega arith)
or_within false false = (omega arith, omega arith)

unit_without : (x y : Bool) → unit (x && not y) ≡ unit x - unit y
unit_without true true = refl
unit_without true false = refl
unit_without false true = refl
unit_without false false = refl

unit_same : (x y : Bool) → unit x ≡ unit y → x ≡ y
unit_same true true e = refl
unit_same true false e = absurd (omega (arith, e))
unit_same false true e = absurd (omega (arith, e))
unit_same false false e = refl

pub unit_some : (x : Bool) → 0 < unit x → x ≡ true
unit_some true some = refl
unit_some false some = absurd (omega (arith, some))

module _ {K : Type 0} {R : K → K → Ordering} (o : IsTotalOrder R) (same : set.IsAntisymmetric R) where
  abbrev has : set.FinSet R → K → Bool
  has a k = set.contains a k

  set-united : (a b : set.FinSet R) (k : K) → are_disjoint a b ≡ true
      → unit (has (set.union a b) k) ≡ unit (has a k) + unit (has b k)
  set-united a b k apart = ap unit (set.contains-union o a b k) ∙ unit_or (has a k) (has b k) (sets.out_of_both o same a b apart k)

  pub set-within : (a b : set.FinSet R) (k : K)
      → (unit (has a k) ≤ unit (has (set.union a b) k)) × (unit (has (set.union a b) k) ≤ unit (has a k) + unit (has b k))
  set-within a b k =
      subst (λ (x : Bool). (unit (has a k) ≤ unit x) × (unit x ≤ unit (has a k) + unit (has b k))) (sym (set.contains-union o a b k)) (or_within (has a k) (has b k))

  pub set-less : (a b : set.FinSet R) (k : K) → unit (has (set.difference a b) k) ≡ unit (has a k) - unit (has b k)
  set-less a b k = ap unit (set.contains-difference o a b k) ∙ unit_without (has a k) (has b k)

  same_units : (a b : set.FinSet R) → ((k : K) → unit (has a k) ≡ unit (has b k)) → a ≡ b
  same_units a b each = sets.same_set o same a b (λ k. unit_same (has a k) (has b k) (each k))

  set_filled : (a : set.FinSet R) → 0 < set.len a → (k : K) × (has a k ≡ true)
  set_filled a some = sets.some_member o same a (set.len a - 1) (omega arith)

  -- a set with a member is not empty
  pub set_counts : (a : set.FinSet R) (k : K) → has a k ≡ true → 0 < set.len a
  set_counts a k is = by (set.len a) refl
    where
      by : (n : ℕ) → set.len a ≡ n → 0 < set.len a
      by zero none = absurd (true≢false (sym is ∙ ap (λ s. has s k) (set.empty_of_len a none) ∙ set.contains-empty R k))
      by (suc n) some = omega arith

-- ---- units of values

pub units-united : (v w : Value) (p : Point) → AreJoinable v w → units_in (united v w) p ≡ units_in v p + units_in w p
units-united (Scalar a) (Scalar b) Thousandths is = refl
units-united (Scalar a) (Scalar b) (Number n) is = omega arith
units-united (Scalar a) (Scalar b) (Member m) is = omega arith
units-united (Ranges a) (Ranges b) Thousandths is = omega arith
units-united (Ranges a) (Ranges b) (Number n) is = set-united nat_cmp_total set.nat_cmp-IsAntisymmetric a b n (not-false _ is.apart)
units-united (Ranges a) (Ranges b) (Member m) is = omega arith
units-united (Items a) (Items b) Thousandths is = omega arith
units-united (Items a) (Items b) (Number n) is = omega arith
units-united (Items a) (Items b) (Member m) is = set-united nat_list_cmp_total texts_apart a b m (not-false _ is.apart)
units-united (Scalar a) (Ranges b) p is = absurd (false≢true is.same_kind)
units-united (Scalar a) (Items b) p is = absurd (false≢true is.same_kind)
units-united (Ranges a) (Scalar b) p is = absurd (false≢true is.same_kind)
units-united (Ranges a) (Items b) p is = absurd (false≢true is.same_kind)
units-united (Items a) (Scalar b) p is = absurd (false≢true is.same_kind)
units-united (Items a) (Ranges b) p is = absurd (false≢true is.same_kind)

pub amount-united : (v w : Value) → AreJoinable v w → amount_in (united v w) ≡ amount_in v + amount_in w
amount-united (Scalar a) (Scalar b) is = refl
amount-united (Ranges a) (Ranges b) is = sets.len-union nat_cmp_total set.nat_cmp-IsAntisymmetric a b (not-false _ is.apart)
amount-united (Items a) (Items b) is = sets.len-union nat_list_cmp_total texts_apart a b (not-false _ is.apart)
amount-united (Scalar a) (Ranges b) is = absurd (false≢true is.same_kind)
amount-united (Scalar a) (Items b) is = absurd (false≢true is.same_kind)
amount-united (Ranges a) (Scalar b) is = absurd (false≢true is.same_kind)
amount-united (Ranges a) (Items b) is = absurd (false≢true is.same_kind)
amount-united (Items a) (Scalar b) is = absurd (false≢true is.same_kind)
amount-united (Items a) (Ranges b) is = absurd (false≢true is.same_kind)

-- a united value is valid if it is not too large
pub given-united : (v w : Value) → IsGiven v → IsGiven w
    → units_in v Thousandths + units_in w Thousandths ≤ most Thousandths → IsGiven (united v w)
given-united (Scalar a) (Scalar b) first second fits = omega (arith, fits)
given-united (Ranges a) (Ranges b) first second fits = sets.union_given nat_cmp_total set.nat_cmp-IsAntisymmetric _ a b first second
given-united (Items a) (Items b) first second fits = sets.union_given nat_list_cmp_total texts_apart _ a b first second
given-united (Scalar a) (Ranges b) first second fits = first
given-united (Scalar a) (Items b) first second fits = first
given-united (Ranges a) (Scalar b) first second fits = first
given-united (Ranges a) (Items b) first second fits = first
given-united (Items a) (Scalar b) first second fits = first
given-united (Items a) (Ranges b) first second fits = first

-- a value that is not empty has a unit somewhere
pub filled_point : (v : Value) → 0 < amount_in v → (p : Point) × (0 < units_in v p)
filled_point (Scalar a) some = (Thousandths, some)
filled_point (Ranges a) some =
    let in_it = set_filled nat_cmp_total set.nat_cmp-IsAntisymmetric a some in
    let counts : 0 < unit (set.contains a in_it.0) = rw in_it.1 (omega arith) in
    (Number in_it.0, counts)
filled_point (Items a) some =
    let in_it = set_filled nat_list_cmp_total texts_apart a some in
    let counts : 0 < unit (set.contains a in_it.0) = rw in_it.1 (omega arith) in
    (Member in_it.0, counts)

-- two values are of the same kind exactly if points at which they have units are
pub kind_at : (v w : Value) (p q : Point) → 0 < units_in v p → 0 < units_in w q → is_same_kind v w ≡ is_one_kind p q
kind_at (Scalar a) (Scalar b) Thousandths Thousandths some other = refl
kind_at (Scalar a) (Ranges b) Thousandths (Number n) some other = refl
kind_at (Scalar a) (Items b) Thousandths (Member n) some other = refl
kind_at (Ranges a) (Scalar b) (Number m) Thousandths some other = refl
kind_at (Ranges a) (Ranges b) (Number m) (Number n) some other = refl
kind_at (Ranges a) (Items b) (Number m) (Member n) some other = refl
kind_at (Items a) (Scalar b) (Member m) Thousandths some other = refl
kind_at (Items a) (Ranges b) (Member m) (Number n) some other = refl
kind_at (Items a) (Items b) (Member m) (Member n) some other = refl
kind_at v w p q some other = absurd (omega arith)

pub one_itself : (p : Point) → is_one_kind p p ≡ true
one_itself Thousandths = refl
one_itself (Number n) = refl
one_itself (Member m) = refl

-- ---- members of two values

-- a point of a member, with units in both
pub record IsShared (v w : Value) : Type 0 where
  pub point : Point
  pub in_first : 0 < units_in v point
  pub in_second : 0 < units_in w point
  pub single : most point ≡ 1

pub shared_point : (v w : Value) → share_members v w ≡ true → IsShared v w
shared_point (Ranges a) (Ranges b) share =
    let in_both = sets.shared_member nat_cmp_total set.nat_cmp-IsAntisymmetric a b (not-true _ share) in
    record { point = Number in_both.0; in_first = rw in_both.1 (omega arith); in_second = rw in_both.2 (omega arith); single = refl }
shared_point (Items a) (Items b) share =
    let in_both = sets.shared_member nat_list_cmp_total texts_apart a b (not-true _ share) in
    record { point = Member in_both.0; in_first = rw in_both.1 (omega arith); in_second = rw in_both.2 (omega arith); single = refl }
shared_point (Scalar a) (Scalar b) share = absurd (false≢true share)
shared_point (Scalar a) (Ranges b) share = absurd (false≢true share)
shared_point (Scalar a) (Items b) share = absurd (false≢true share)
shared_point (Ranges a) (Scalar b) share = absurd (false≢true share)
shared_point (Ranges a) (Items b) share = absurd (false≢true share)
shared_point (Items a) (Scalar b) share = absurd (false≢true share)
shared_point (Items a) (Ranges b) share = absurd (false≢true share)

share_from : {K : Type 0} {R : K → K → Ordering} (o : IsTotalOrder R) (same : set.IsAntisymmetric R) (a b : set.FinSet R) (k : K)
    → 0 < unit (set.contains a k) → 0 < unit (set.contains b k) → not (are_disjoint a b) ≡ true
share_from o same a b k first second = by (are_disjoint a b) refl
  where
    by : (d : Bool) → are_disjoint a b ≡ d → not d ≡ true
    by true apart = absurd (false≢true (sym (sets.out_of_both o same a b apart k) ∙ rw (unit_some _ first, unit_some _ second)))
    by false apart = refl

-- a number or a label that has units in both is a shared member
pub share_at : (p : Point) (v w : Value) → most p ≡ 1 → 0 < units_in v p → 0 < units_in w p → share_members v w ≡ true
share_at Thousandths v w single first second = absurd (omega arith)
share_at (Number n) (Ranges a) (Ranges b) single first second = share_from nat_cmp_total set.nat_cmp-IsAntisymmetric a b n first second
share_at (Number n) v w single first second = absurd (omega arith)
share_at (Member m) (Items a) (Items b) single first second = share_from nat_list_cmp_total texts_apart a b m first second
share_at (Member m) v w single first second = absurd (omega arith)

-- ---- values with the same units

pub same_value : (v w : Value) → 0 < amount_in v → 0 < amount_in w → ((p : Point) → units_in v p ≡ units_in w p) → v ≡ w
same_value (Scalar a) (Scalar b) first second same = ap Scalar (same Thousandths)
same_value (Ranges a) (Ranges b) first second same = ap Ranges (same_units nat_cmp_total set.nat_cmp-IsAntisymmetric a b (λ n. same (Number n)))
same_value (Items a) (Items b) first second same = ap Items (same_units nat_list_cmp_total texts_apart a b (λ m. same (Member m)))
same_value v w first second same =
    let p = filled_point v first in
    absurd (false≢true (kind_at v w p.0 p.0 p.1 (subst (λ (n : ℕ). 0 < n) (same p.0) p.1) ∙ one_itself p.0))
