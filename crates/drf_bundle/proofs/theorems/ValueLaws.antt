-- Lemmas about `specs/laws/ValueLaws.antt`.
use Rattle.std.specs.Prelude.{◌≡◌, ◌+◌, ◌-◌, ◌<◌, ◌≤◌, Bool, true, false, IsTrue}
use Rattle.std.proofs.Common.{refl, ◌∙◌, arith}
use Rattle.std.specs.Cmp.{nat_cmp_total}
use Rattle.std.specs.Cmp.Lexicographic.{nat_list_cmp_total}
use Rattle.std.specs.FinSet as set
use Rattle.std.proofs.lemmas.Bool.{false≢true, leb-true, le-leb, false_from_ne_true}
use Rattle.drf_kinds.specs.SetLaws as sets
use Rattle.drf_bundle.specs.Value.{Point, Thousandths, Number, Member, units_in, most, is_one_kind, amount_in, IsGiven, is_same_kind, share_members, united, less, has_all_of}
use Rattle.drf_bundle.specs.declared.value.Value.{Value}
use Rattle.drf_bundle.specs.declared.value.Value.TheVariants.{Scalar, Ranges, Items}
use Rattle.drf_bundle.specs.laws.ValueLaws.{AreJoinable, texts_apart, unit, unit_some, set-within, set-less, set_counts, filled_point, kind_at, one_itself, shared_point}

unit_most : (x : Bool) → unit x ≤ 1
unit_most true = omega arith
unit_most false = omega arith

unit_above : (x y : Bool) → (x ≡ true → y ≡ true) → unit x ≤ unit y
unit_above true y within = rw (within refl) (omega arith)
unit_above false y within = omega arith

unit_within : (x y : Bool) → unit x ≤ unit y → x ≡ true → y ≡ true
unit_within true true below e = refl
unit_within true false below e = absurd (omega (arith, below))
unit_within false y below e = absurd (false≢true e)

-- a united value has at least the units of each, and at most those of both together
pub united_within : (v w : Value) (p : Point)
    → (units_in v p ≤ units_in (united v w) p) × (units_in (united v w) p ≤ units_in v p + units_in w p)
united_within (Scalar a) (Scalar b) Thousandths = (omega arith, omega arith)
united_within (Scalar a) (Scalar b) (Number n) = (omega arith, omega arith)
united_within (Scalar a) (Scalar b) (Member m) = (omega arith, omega arith)
united_within (Ranges a) (Ranges b) Thousandths = (omega arith, omega arith)
united_within (Ranges a) (Ranges b) (Number n) = set-within nat_cmp_total set.nat_cmp-IsAntisymmetric a b n
united_within (Ranges a) (Ranges b) (Member m) = (omega arith, omega arith)
united_within (Items a) (Items b) Thousandths = (omega arith, omega arith)
united_within (Items a) (Items b) (Number n) = (omega arith, omega arith)
united_within (Items a) (Items b) (Member m) = set-within nat_list_cmp_total texts_apart a b m
united_within (Scalar a) (Ranges b) p = (omega arith, omega arith)
united_within (Scalar a) (Items b) p = (omega arith, omega arith)
united_within (Ranges a) (Scalar b) p = (omega arith, omega arith)
united_within (Ranges a) (Items b) p = (omega arith, omega arith)
united_within (Items a) (Scalar b) p = (omega arith, omega arith)
united_within (Items a) (Ranges b) p = (omega arith, omega arith)

-- scalars add up, whether members are shared or not
pub thousandths-united : (v w : Value) → is_same_kind v w ≡ true
    → units_in (united v w) Thousandths ≡ units_in v Thousandths + units_in w Thousandths
thousandths-united (Scalar a) (Scalar b) same = refl
thousandths-united (Scalar a) (Ranges b) same = omega arith
thousandths-united (Scalar a) (Items b) same = omega arith
thousandths-united (Ranges a) (Scalar b) same = absurd (false≢true same)
thousandths-united (Ranges a) (Ranges b) same = omega arith
thousandths-united (Ranges a) (Items b) same = omega arith
thousandths-united (Items a) (Scalar b) same = absurd (false≢true same)
thousandths-united (Items a) (Ranges b) same = omega arith
thousandths-united (Items a) (Items b) same = omega arith

pub units-less : (v w : Value) (p : Point) → units_in (less v w) p ≡ units_in v p - units_in w p
units-less (Scalar a) (Scalar b) Thousandths = refl
units-less (Scalar a) (Scalar b) (Number n) = omega arith
units-less (Scalar a) (Scalar b) (Member m) = omega arith
units-less (Scalar a) (Ranges b) Thousandths = omega arith
units-less (Scalar a) (Ranges b) (Number n) = omega arith
units-less (Scalar a) (Ranges b) (Member m) = omega arith
units-less (Scalar a) (Items b) Thousandths = omega arith
units-less (Scalar a) (Items b) (Number n) = omega arith
units-less (Scalar a) (Items b) (Member m) = omega arith
units-less (Ranges a) (Ranges b) Thousandths = omega arith
units-less (Ranges a) (Ranges b) (Number n) = set-less nat_cmp_total set.nat_cmp-IsAntisymmetric a b n
units-less (Ranges a) (Ranges b) (Member m) = omega arith
units-less (Ranges a) (Scalar b) Thousandths = omega arith
units-less (Ranges a) (Scalar b) (Number n) = omega arith
units-less (Ranges a) (Scalar b) (Member m) = omega arith
units-less (Ranges a) (Items b) Thousandths = omega arith
units-less (Ranges a) (Items b) (Number n) = omega arith
units-less (Ranges a) (Items b) (Member m) = omega arith
units-less (Items a) (Items b) Thousandths = omega arith
units-less (Items a) (Items b) (Number n) = omega arith
units-less (Items a) (Items b) (Member m) = set-less nat_list_cmp_total texts_apart a b m
units-less (Items a) (Scalar b) Thousandths = omega arith
units-less (Items a) (Scalar b) (Number n) = omega arith
units-less (Items a) (Scalar b) (Member m) = omega arith
units-less (Items a) (Ranges b) Thousandths = omega arith
units-less (Items a) (Ranges b) (Number n) = omega arith
units-less (Items a) (Ranges b) (Member m) = omega arith

pub given-less : (v w : Value) → IsGiven v → IsGiven (less v w)
given-less (Scalar a) (Scalar b) given = omega arith
given-less (Ranges a) (Ranges b) given = sets.difference_given nat_cmp_total set.nat_cmp-IsAntisymmetric _ a b given
given-less (Items a) (Items b) given = sets.difference_given nat_list_cmp_total texts_apart _ a b given
given-less (Scalar a) (Ranges b) given = given
given-less (Scalar a) (Items b) given = given
given-less (Ranges a) (Scalar b) given = given
given-less (Ranges a) (Items b) given = given
given-less (Items a) (Scalar b) given = given
given-less (Items a) (Ranges b) given = given

-- a number or a label has at most one unit
pub units_single : (v : Value) (p : Point) → most p ≡ 1 → units_in v p ≤ 1
units_single v Thousandths single = absurd (omega arith)
units_single (Scalar a) (Number n) single = omega arith
units_single (Ranges a) (Number n) single = unit_most (set.contains a n)
units_single (Items a) (Number n) single = omega arith
units_single (Scalar a) (Member m) single = omega arith
units_single (Ranges a) (Member m) single = omega arith
units_single (Items a) (Member m) single = unit_most (set.contains a m)

pub units-most : (v : Value) (p : Point) → IsGiven v → units_in v p ≤ most p
units-most (Scalar a) Thousandths given = omega arith
units-most (Scalar a) (Number n) given = omega arith
units-most (Scalar a) (Member m) given = omega arith
units-most (Ranges a) Thousandths given = omega arith
units-most (Ranges a) (Number n) given = unit_most (set.contains a n)
units-most (Ranges a) (Member m) given = omega arith
units-most (Items a) Thousandths given = omega arith
units-most (Items a) (Number n) given = omega arith
units-most (Items a) (Member m) given = unit_most (set.contains a m)

pub point_filled : (v : Value) (p : Point) → 0 < units_in v p → 0 < amount_in v
point_filled (Scalar a) Thousandths some = some
point_filled (Scalar a) (Number n) some = absurd (omega arith)
point_filled (Scalar a) (Member m) some = absurd (omega arith)
point_filled (Ranges a) Thousandths some = absurd (omega arith)
point_filled (Ranges a) (Number n) some = set_counts nat_cmp_total set.nat_cmp-IsAntisymmetric a n (unit_some _ some)
point_filled (Ranges a) (Member m) some = absurd (omega arith)
point_filled (Items a) Thousandths some = absurd (omega arith)
point_filled (Items a) (Number n) some = absurd (omega arith)
point_filled (Items a) (Member m) some = set_counts nat_list_cmp_total texts_apart a m (unit_some _ some)

-- two values that are not too large, and of the same kind at all their points, can be joined
pub joinable_from : (v w : Value) → 0 < amount_in v → 0 < amount_in w
    → ((p q : Point) → 0 < units_in v p → 0 < units_in w q → IsTrue (is_one_kind p q))
    → ((p : Point) → units_in v p + units_in w p ≤ most p) → AreJoinable v w
joinable_from v w first second kinds fits =
    let p = filled_point v first in
    let q = filled_point w second in
    record {
      same_kind = kind_at v w p.0 q.0 p.1 q.1 ∙ kinds p.0 q.0 p.1 q.1;
      apart = false_from_ne_true (share_members v w) (λ share.
          let at = shared_point v w share in omega (arith, at.in_first, at.in_second, at.single, fits at.point));
    }

-- ---- one value covers another

pub units_covered : (v w : Value) → has_all_of v w ≡ true → (p : Point) → units_in w p ≤ units_in v p
units_covered (Scalar a) (Scalar b) all Thousandths = leb-true b a all
units_covered (Scalar a) (Scalar b) all (Number n) = omega arith
units_covered (Scalar a) (Scalar b) all (Member m) = omega arith
units_covered (Ranges a) (Ranges b) all (Number n) = unit_above _ _ (set.is_subset-contains nat_cmp_total b a all n)
units_covered (Ranges a) (Ranges b) all Thousandths = omega arith
units_covered (Ranges a) (Ranges b) all (Member m) = omega arith
units_covered (Items a) (Items b) all (Member m) = unit_above _ _ (set.is_subset-contains nat_list_cmp_total b a all m)
units_covered (Items a) (Items b) all Thousandths = omega arith
units_covered (Items a) (Items b) all (Number n) = omega arith
units_covered (Scalar a) (Ranges b) all p = absurd (false≢true all)
units_covered (Scalar a) (Items b) all p = absurd (false≢true all)
units_covered (Ranges a) (Scalar b) all p = absurd (false≢true all)
units_covered (Ranges a) (Items b) all p = absurd (false≢true all)
units_covered (Items a) (Scalar b) all p = absurd (false≢true all)
units_covered (Items a) (Ranges b) all p = absurd (false≢true all)

pub covered_from : (v w : Value) → 0 < amount_in w → ((p : Point) → units_in w p ≤ units_in v p) → has_all_of v w ≡ true
covered_from (Scalar a) (Scalar b) some below = le-leb b a (below Thousandths)
covered_from (Ranges a) (Ranges b) some below = set.contains-is_subset nat_cmp_total b a (λ n in_b. unit_within _ _ (below (Number n)) in_b)
covered_from (Items a) (Items b) some below = set.contains-is_subset nat_list_cmp_total b a (λ m in_b. unit_within _ _ (below (Member m)) in_b)
covered_from v w some below =
    let p = filled_point w some in
    absurd (false≢true (kind_at v w p.0 p.0 (omega (arith, p.1, below p.0)) p.1 ∙ one_itself p.0))
