-- The units of the join of two bundles, and when there is one.
use Rattle.std.specs.Prelude.{◌≡◌, ℕ, ◌+◌, Bool, true, false, List, [], ◌∷◌, IsTrue, All}
use Rattle.std.specs.List.{sum_by}
use Rattle.std.proofs.Common.{refl, sym, ap, ◌∙◌, subst, inl, inr, arith}
use Rattle.std.proofs.lemmas.Bool.{true≢false, and_parts, and_from, cases_Bool}
use Rattle.std.proofs.lemmas.List.Elements.{All-head, All-tail, All-cons}
use Rattle.std.proofs.lemmas.List.Sums.{sum_by-cons}
use Rattle.drf_role.specs.Parts.{parts_of, text_of}
use Rattle.drf_role.specs.Path.{Path}
use Rattle.drf_role.specs.PathLaws.{same_path-true, same_path_itself}
use Rattle.drf_role.specs.Role.{IsComponent, IsRole, default_role}
use Rattle.drf_bundle.specs.Value.{Point, units_in, amount_in, united}
use Rattle.drf_bundle.specs.laws.ValueLaws.{AreJoinable, units-united, amount-united, filled_point, same_value}
use Rattle.drf_bundle.specs.Bundle.{Key, is_default, reservation, key_of, key_below, same_key, is_in_order, units_where, units, IsResource, amount, both_of, put_among, merged}
use Rattle.drf_bundle.specs.laws.KeyLaws.{cases_key, key_less, key_greater, key_equal, cases_same, Has, stands_first, first_trans, unit_of, unit-here, unit-none, units_first, units_head, units_other}
use Rattle.drf_bundle.specs.declared.resource.Resource.{Resource}

-- values at the same key in both bundles can be joined
abbrev pub KeysJoin : List Resource → List Resource → Type 0
KeysJoin a b = (r s : Resource) → Has a r → Has b s → key_of r ≡ key_of s → AreJoinable r.value s.value

pub merged-empty : (a : List Resource) → merged a [] ≡ a
merged-empty [] = refl
merged-empty (r ∷ rs) = ap (λ (l : List Resource). r ∷ l) (merged-empty rs)

-- ---- sums over a merged list

-- the count of a united resource is the sum of the counts of the two
abbrev Adds : (Resource → ℕ) → Type 0
Adds g = (r s : Resource) → key_of r ≡ key_of s → AreJoinable r.value s.value → g (both_of r s) ≡ g r + g s

module _ (g : Resource → ℕ) (adds : Adds g) where
  sum-put_among : (r : Resource) (rs b : List Resource) → KeysJoin (r ∷ rs) b
      → ((b : List Resource) → KeysJoin rs b → sum_by g (merged rs b) ≡ sum_by g rs + sum_by g b)
      → sum_by g (put_among r (merged rs) b) ≡ sum_by g (r ∷ rs) + sum_by g b
  sum-put_among r rs [] joins more = omega (arith, sum_by-cons g r (merged rs []), sum_by-cons g r rs, more [] (λ x y in_a in_b. joins x y (inr in_a) in_b))
  sum-put_among r rs (s ∷ ss) joins more = elim (cases_key (key_of r) (key_of s)) [
    | inl less ↦ rw less (
        let rest = more (s ∷ ss) (λ x y in_a in_b. joins x y (inr in_a) in_b) in
        omega (arith, sum_by-cons g r (merged rs (s ∷ ss)), sum_by-cons g r rs, rest))
    | inr (inl equal) ↦ rw equal (
        let rest = more ss (λ x y in_a in_b. joins x y (inr in_a) (inr in_b)) in
        let here = adds r s (key_equal (key_of r) (key_of s) equal) (joins r s (inl refl) (inl refl) (key_equal (key_of r) (key_of s) equal)) in
        omega (arith, sum_by-cons g (both_of r s) (merged rs ss), sum_by-cons g r rs, sum_by-cons g s ss, rest, here))
    | inr (inr greater) ↦ rw greater (
        let rest = sum-put_among r rs ss (λ x y in_a in_b. joins x y in_a (inr in_b)) more in
        omega (arith, sum_by-cons g s (put_among r (merged rs) ss), sum_by-cons g s ss, rest))
  ]

  pub sum-merged : (a b : List Resource) → KeysJoin a b → sum_by g (merged a b) ≡ sum_by g a + sum_by g b
  sum-merged [] b joins = omega arith
  sum-merged (r ∷ rs) b joins = sum-put_among r rs b joins (λ b rest. sum-merged rs b rest)

unit_adds : (test : Key → Bool) (p : Point) → Adds (unit_of test p)
unit_adds test p r s same joinable = elim (cases_Bool (test (key_of r))) [
  | inl passes ↦
      let other : test (key_of s) ≡ true = subst (λ (k : Key). test k ≡ true) same passes in
      let whole : unit_of test p (both_of r s) ≡ units_in (united r.value s.value) p = unit-here test p (both_of r s) passes in
      omega (arith, whole, unit-here test p r passes, unit-here test p s other, units-united r.value s.value p joinable)
  | inr fails ↦
      let other : test (key_of s) ≡ false = subst (λ (k : Key). test k ≡ false) same fails in
      let whole : unit_of test p (both_of r s) ≡ 0 = unit-none test p (both_of r s) fails in
      omega (arith, whole, unit-none test p r fails, unit-none test p s other)
]

-- units add up, for any test of keys
pub where-merged : (test : Key → Bool) (p : Point) (a b : List Resource) → KeysJoin a b
    → units_where test p (merged a b) ≡ units_where test p a + units_where test p b
where-merged test p a b joins = sum-merged (unit_of test p) (unit_adds test p) a b joins

pub amount-merged : (a b : List Resource) → KeysJoin a b → amount (merged a b) ≡ amount a + amount b
amount-merged a b joins = sum-merged (λ r. amount_in r.value) (λ r s same joinable. amount-united r.value s.value joinable) a b joins

-- ---- the order of a merged list

first-put_among : (key : Key) (r : Resource) (rs b : List Resource) → IsTrue (stands_first key (r ∷ rs))
    → IsTrue (stands_first key b)
    → ((b : List Resource) → IsTrue (stands_first key b) → IsTrue (stands_first key (merged rs b)))
    → IsTrue (stands_first key (put_among r (merged rs) b))
first-put_among key r rs [] first second more =
    let here = and_parts (key_below key (key_of r)) (stands_first key rs) first in
    and_from _ _ here.0 (more [] second)
first-put_among key r rs (s ∷ ss) first second more =
    let here = and_parts (key_below key (key_of r)) (stands_first key rs) first in
    let there = and_parts (key_below key (key_of s)) (stands_first key ss) second in
    elim (cases_key (key_of r) (key_of s)) [
      | inl less ↦ rw less (and_from _ _ here.0 (more (s ∷ ss) second))
      | inr (inl equal) ↦ rw equal (and_from _ _ here.0 (more ss there.1))
      | inr (inr greater) ↦ rw greater (and_from _ _ there.0 (first-put_among key r rs ss first there.1 more))
    ]

first-merged : (key : Key) (a b : List Resource) → IsTrue (stands_first key a) → IsTrue (stands_first key b)
    → IsTrue (stands_first key (merged a b))
first-merged key [] b first second = second
first-merged key (r ∷ rs) b first second =
    first-put_among key r rs b first second (λ b second. first-merged key rs b (and_parts (key_below key (key_of r)) (stands_first key rs) first).1 second)

in_order-put_among : (r : Resource) (rs b : List Resource) → IsTrue (is_in_order (r ∷ rs)) → IsTrue (is_in_order b)
    → ((b : List Resource) → IsTrue (is_in_order b) → IsTrue (is_in_order (merged rs b)))
    → IsTrue (is_in_order (put_among r (merged rs) b))
in_order-put_among r rs [] first second more =
    let here = and_parts (stands_first (key_of r) rs) (is_in_order rs) first in
    and_from _ _ (first-merged (key_of r) rs [] here.0 second) (more [] second)
in_order-put_among r rs (s ∷ ss) first second more =
    let here = and_parts (stands_first (key_of r) rs) (is_in_order rs) first in
    let there = and_parts (stands_first (key_of s) ss) (is_in_order ss) second in
    elim (cases_key (key_of r) (key_of s)) [
      | inl less ↦
          let below = key_less (key_of r) (key_of s) less in
          let others : IsTrue (stands_first (key_of r) (s ∷ ss)) = and_from _ _ below (first_trans (key_of r) (key_of s) ss below there.0) in
          rw less (and_from _ _ (first-merged (key_of r) rs (s ∷ ss) here.0 others) (more (s ∷ ss) second))
      | inr (inl equal) ↦
          let others : IsTrue (stands_first (key_of r) ss) = subst (λ (k : Key). IsTrue (stands_first k ss)) (sym (key_equal (key_of r) (key_of s) equal)) there.0 in
          rw equal (and_from _ _ (first-merged (key_of r) rs ss here.0 others) (more ss there.1))
      | inr (inr greater) ↦
          let below = key_greater (key_of r) (key_of s) greater in
          let others : IsTrue (stands_first (key_of s) (r ∷ rs)) = and_from _ _ below (first_trans (key_of s) (key_of r) rs below here.0) in
          rw greater (and_from _ _
          (first-put_among (key_of s) r rs ss others there.0 (λ b second. first-merged (key_of s) rs b (and_parts (key_below (key_of s) (key_of r)) (stands_first (key_of s) rs) others).1 second))
          (in_order-put_among r rs ss first there.1 more))
    ]

pub in_order-merged : (a b : List Resource) → IsTrue (is_in_order a) → IsTrue (is_in_order b)
    → IsTrue (is_in_order (merged a b))
in_order-merged [] b first second = second
in_order-merged (r ∷ rs) b first second =
    in_order-put_among r rs b first second (λ b second. in_order-merged rs b (and_parts (stands_first (key_of r) rs) (is_in_order rs) first).1 second)

-- ---- properties of each resource of a merged list

-- if two resources with the same key have P, so has their union
abbrev Passes : (Resource → Type 0) → List Resource → List Resource → Type 0
Passes P a b = (r s : Resource) → Has a r → Has b s → key_of r ≡ key_of s → P r → P s → P (both_of r s)

module _ (P : Resource → Type 0) where
  each-put_among : (r : Resource) (rs b : List Resource) → Passes P (r ∷ rs) b → All P (r ∷ rs) → All P b
      → ((b : List Resource) → Passes P rs b → All P b → All P (merged rs b))
      → All P (put_among r (merged rs) b)
  each-put_among r rs [] passes first second more =
      All-cons P r (merged rs []) (All-head P r rs first) (more [] (λ x y in_a in_b. passes x y (inr in_a) in_b) second)
  each-put_among r rs (s ∷ ss) passes first second more =
      let here = All-head P r rs first in
      let there = All-head P s ss second in
      let others = All-tail P s ss second in
      elim (cases_key (key_of r) (key_of s)) [
        | inl less ↦ rw less (All-cons P r (merged rs (s ∷ ss)) here (more (s ∷ ss) (λ x y in_a in_b. passes x y (inr in_a) in_b) second))
        | inr (inl equal) ↦ rw equal (
            All-cons P (both_of r s) (merged rs ss) (passes r s (inl refl) (inl refl) (key_equal (key_of r) (key_of s) equal) here there)
            (more ss (λ x y in_a in_b. passes x y (inr in_a) (inr in_b)) others))
        | inr (inr greater) ↦ rw greater (
            All-cons P s (put_among r (merged rs) ss) there
            (each-put_among r rs ss (λ x y in_a in_b. passes x y in_a (inr in_b)) first others more))
      ]

  pub each-merged : (a b : List Resource) → Passes P a b → All P a → All P b → All P (merged a b)
  each-merged [] b passes first second = second
  each-merged (r ∷ rs) b passes first second =
      each-put_among r rs b passes first second (λ b rest others. each-merged rs b rest (All-tail P r rs first) others)

-- ---- two lists in order with the same units are equal

pub record IsOrderly (a : List Resource) : Type 0 where
  pub in_order : IsTrue (is_in_order a)
  pub each : All IsResource a

orderly_tail : (r : Resource) (rs : List Resource) → IsOrderly (r ∷ rs) → IsOrderly rs
orderly_tail r rs is = record { in_order = (and_parts (stands_first (key_of r) rs) (is_in_order rs) is.in_order).1; each = All-tail IsResource r rs is.each }

-- the text of no other role is empty
empty_no_role : (role : Path) → IsRole role → is_default role ≡ false → parts_of (text_of role) ≡ role
    → text_of role ≡ [] → ⊥
empty_no_role role (inl default) other read empty = true≢false (sym (ap is_default default ∙ same_path_itself default_role) ∙ other)
empty_no_role role (inr path) other read empty =
    let one : [] ∷ [] ≡ role = ap parts_of (sym empty) ∙ read in
    (All-head IsComponent [] [] (subst (λ (parts : Path). All IsComponent parts) (sym one) path.each)).not_empty refl

-- different roles have different reservations
same_role : (r s : Path) → IsRole r → IsRole s → parts_of (text_of r) ≡ r → parts_of (text_of s) ≡ s
    → reservation r ≡ reservation s → r ≡ s
same_role r s first second read_r read_s same = elim (cases_Bool (is_default r)) [
  | inl all ↦ elim (cases_Bool (is_default s)) [
    | inl all_too ↦ same_path-true r default_role all ∙ sym (same_path-true s default_role all_too)
    | inr some ↦ absurd (empty_no_role s second some read_s (sym (rw some at (rw all at same))))
  ]
  | inr some ↦ elim (cases_Bool (is_default s)) [
    | inl all ↦ absurd (empty_no_role r first some read_r (rw all at (rw some at same)))
    | inr some_too ↦
        let texts : text_of r ≡ text_of s = rw some_too at (rw some at same) in
        sym read_r ∙ ap parts_of texts ∙ read_s
  ]
]

-- two resources with the same key and value are equal
pub same_resource : (r s : Resource) → IsResource r → IsResource s → key_of r ≡ key_of s → r.value ≡ s.value → r ≡ s
same_resource r s first second keys values =
    let label : r.label ≡ s.label = λ i. (keys i).0 in
    let role = same_role r.role s.role first.role second.role first.role_read second.role_read (λ i. (keys i).1) in
    λ i. record { label = label i; role = role i; value = values i }

-- a key does not come before all keys of another list that has the same units
has_no_units : (r : Resource) (rs b : List Resource) → IsOrderly (r ∷ rs) → IsTrue (stands_first (key_of r) b)
    → ((key : Key) (p : Point) → units (r ∷ rs) key p ≡ units b key p) → ⊥
has_no_units r rs b first before same =
    let p = filled_point r.value (All-head IsResource r rs first.each).filled in
    omega (arith, p.1, units_head r rs p.0 (and_parts (stands_first (key_of r) rs) (is_in_order rs) first.in_order).0, same (key_of r) p.0, units_first (key_of r) b p.0 before)

pub same_bundle : (a b : List Resource) → IsOrderly a → IsOrderly b
    → ((key : Key) (p : Point) → units a key p ≡ units b key p) → a ≡ b
same_bundle [] [] first second same = refl
same_bundle [] (s ∷ ss) first second same = absurd (has_no_units s ss [] second refl (λ key p. sym (same key p)))
same_bundle (r ∷ rs) [] first second same = absurd (has_no_units r rs [] first refl same)
same_bundle (r ∷ rs) (s ∷ ss) first second same =
    let here = and_parts (stands_first (key_of r) rs) (is_in_order rs) first.in_order in
    let there = and_parts (stands_first (key_of s) ss) (is_in_order ss) second.in_order in
    elim (cases_key (key_of r) (key_of s)) [
      | inl less ↦
          let below = key_less (key_of r) (key_of s) less in
          absurd (has_no_units r rs (s ∷ ss) first (and_from _ _ below (first_trans (key_of r) (key_of s) ss below there.0)) same)
      | inr (inl equal) ↦
          let keys = key_equal (key_of r) (key_of s) equal in
          let one = All-head IsResource r rs first.each in
          let other = All-head IsResource s ss second.each in
          let value = same_value r.value s.value one.filled other.filled (λ p. omega (arith, units_head r rs p here.0, same (key_of r) p, subst (λ (k : Key). units (s ∷ ss) k p ≡ units_in s.value p) (sym keys) (units_head s ss p there.0))) in
          let rest = same_bundle rs ss (orderly_tail r rs first) (orderly_tail s ss second) (λ key p. same_tail keys here.0 there.0 key p) in
          λ i. same_resource r s one other keys value i ∷ rest i
      | inr (inr greater) ↦
          let below = key_greater (key_of r) (key_of s) greater in
          absurd (has_no_units s ss (r ∷ rs) second (and_from _ _ below (first_trans (key_of s) (key_of r) rs below here.0)) (λ key p. sym (same key p)))
    ]
  where
    same_tail : key_of r ≡ key_of s → IsTrue (stands_first (key_of r) rs) → IsTrue (stands_first (key_of s) ss)
        → (key : Key) (p : Point) → units rs key p ≡ units ss key p
    same_tail keys here there key p = elim (cases_same key (key_of r)) [
      | inl is ↦ subst (λ (k : Key). units rs k p ≡ units ss k p) (sym is.1) (
          omega (arith, units_first (key_of r) rs p here, subst (λ (k : Key). units ss k p ≡ 0) (sym keys) (units_first (key_of s) ss p there)))
      | inr other ↦
          omega (arith, units_other key r rs p other, same key p, units_other key s ss p (subst (λ (k : Key). same_key key k ≡ false) keys other))
    ]
