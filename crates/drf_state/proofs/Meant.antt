-- The meanings of texts of resources are valid: they are bundles and quantities.
use Rattle.std.proofs.Common.{◌≡◌, ℕ, ◌+◌, ◌^◌, ◌<◌, Bool, true, false, cond, List, [], ◌∷◌, ◌&&◌, map, All, Option, Some, None, Result, Ok, Err, inl, inr, refl, sym, ap, subst, ◌∙◌, arith}
use Rattle.std.specs.Prelude.{if◌then◌else◌, not, ◌||◌, nat_le, nat_lt, option_map}
use Rattle.std.specs.List.{list_all, list_any, flat_map}
use Rattle.std.specs.Ordering.{nat_cmp, eq_by_cmp, is_eq}
use Rattle.std.specs.declared.cmp.Ordering.{Ordering}
use Rattle.std.specs.declared.cmp.Ordering.TheVariants.{Less, Equal, Greater}
use Rattle.std.specs.Cmp.Lexicographic.{nat_list_cmp_total}
use Rattle.std.specs.FinSet as set
use Rattle.std.proofs.lemmas.Bool.{and_parts, false≢true, leb-true, ltb-true}
use Rattle.std.proofs.lemmas.Bool.Decides.{nat_tests}
use Rattle.std.proofs.lemmas.List.Elements.{All-head, All-tail, All-nil, All-cons}
use Rattle.drf_amount.specs.declared.algebra.AlgebraFault.{AlgebraFault}
use Rattle.drf_amount.specs.declared.algebra.AlgebraFault.TheVariants as refusal
use Rattle.drf_role.specs.Name.{IsLabel}
use Rattle.drf_role.specs.Role.{IsRole, default_role}
use Rattle.drf_role.proofs.RoleLaws.{parts_of_role}
use Rattle.drf_role.specs.Parts.{parts_of}
use Rattle.drf_role.specs.Text.{Text}
use Rattle.drf_role.specs.TextLaws.{cases_cmp, same_from_cmp}
use Rattle.drf_role.specs.Tests.{is_label, is_role}
use Rattle.drf_role.proofs.TestLaws.{label_decides, role_decides}
use Rattle.drf_kinds.specs.Intervals.{IsNumberSet, interval_of, is_in, is_within, members, numbers}
use Rattle.drf_kinds.proofs.IntervalLaws.{contains-members}
use Rattle.drf_kinds.specs.Names.{IsLabelSet, text_cmp}
use Rattle.drf_kinds.specs.declared.interval.Interval.{Interval}
use Rattle.drf_bundle.specs.Bundle.{IsBundle}
use Rattle.drf_bundle.specs.Quantities.{amount_of, with_amount}
use Rattle.drf_bundle.specs.Union.{IsPiece, has_other_kind, is_reserved_elsewhere, is_too_much, union_refusal, with_united}
use Rattle.drf_bundle.specs.Value.{IsGiven, Thousandths, amount_in, units_in}
use Rattle.drf_bundle.specs.laws.BundleLaws.{bundle-empty}
use Rattle.drf_bundle.proofs.theorems.QuantitiesLaws.{in_order-with}
use Rattle.drf_bundle.proofs.theorems.UnionLaws.{bundle-with_united}
use Rattle.drf_bundle.specs.declared.quantities.Entry.{Entry}
use Rattle.drf_bundle.specs.declared.resource.Resource.{Resource}
use Rattle.drf_bundle.specs.declared.value.Value.{Value}
use Rattle.drf_bundle.specs.declared.value.Value.TheVariants.{Scalar, Ranges, Items}
use Rattle.drf_text.specs.Number.{is_number, thousandths_of}
use Rattle.drf_text.specs.Meaning.{after, counted, meaning_from, meaning_of, put, put_or, quantities_from, quantities_meant, text_fault_of}
use Rattle.drf_text.specs.Pieces.{begins, body_of, fault_of, first_fault, has_bad_role, has_form, has_labels, has_numbers, head_of, high_of, is_end, is_range, is_reserved, low_of, members_are_labels, name_of, numbers_of, parts_inside, pieces_of, quantity_fault_of, resource_of, role_of, role_text_of, value_of}
use Rattle.drf_text.specs.RoundTrip.{IsEntry}
use Rattle.drf_text.specs.declared.fault.TextFault.{TextFault}
use Rattle.drf_text.specs.declared.fault.TextFault.TheVariants.{Syntax, BadName, BadRole, BadNumber, TooLarge}
use Rattle.drf_text.proofs.Parts.{flat_map-map, pair_of}
use Rattle.drf_state.specs.Valid.{AreQuantities}

-- ---- a piece without an error

-- the checks that it passes
record HasPassed (piece : Text) (bad_role : Bool) : Type 0 where
  form : has_form piece ≡ true
  labels : has_labels piece ≡ true
  role : bad_role ≡ false
  numbers : has_numbers (body_of piece) ≡ true

passed_by : (a b c d : Bool)
    → (if not a then Some Syntax else if not b then Some BadName else if c then Some BadRole else if not d then Some BadNumber else None) ≡ None
    → (a ≡ true) × (b ≡ true) × (c ≡ false) × (d ≡ true)
passed_by true true false true is = (refl, refl, refl, refl)
passed_by true true false false is = let none : ⊥ = cc in absurd none
passed_by true true true d is = let none : ⊥ = cc in absurd none
passed_by true false c d is = let none : ⊥ = cc in absurd none
passed_by false b c d is = let none : ⊥ = cc in absurd none

passed : (piece : Text) (bad_role : Bool) → first_fault piece bad_role ≡ None → HasPassed piece bad_role
passed piece bad_role is =
    let tests = passed_by (has_form piece) (has_labels piece) bad_role (has_numbers (body_of piece)) is in
    record { form = tests.0; labels = tests.1; role = tests.2; numbers = tests.3 }

module _ (piece : Text) (bad_role : Bool) (is : HasPassed piece bad_role) where
  label_is : IsLabel (name_of (head_of piece))
  label_is = (label_decides (name_of (head_of piece))).0 (and_parts (is_label (name_of (head_of piece))) (members_are_labels (body_of piece)) is.labels).0

  members_are : members_are_labels (body_of piece) ≡ true
  members_are = (and_parts (is_label (name_of (head_of piece))) (members_are_labels (body_of piece)) is.labels).1

-- ---- its role

role_by : (head : Text) (reserved valid : Bool) → is_role (role_text_of head) ≡ valid → (reserved && not valid) ≡ false
    → IsRole (cond reserved (parts_of (role_text_of head)) default_role)
role_by head true true test none = (role_decides (role_text_of head)).0 test
role_by head true false test none = absurd (false≢true (sym none))
role_by head false valid test none = inl refl

role_is : (head : Text) → has_bad_role head ≡ false → IsRole (role_of head)
role_is head none = role_by head (is_reserved head) (is_role (role_text_of head)) refl none

-- ---- its value

-- ranges end below 2^32
below : (parts : List Text) (k : ℕ) → list_all is_range parts ≡ true → is_in (map (λ part. interval_of (pair_of part)) parts) k ≡ true → k < 2 ^ 32
below [] k all found = absurd (false≢true found)
below (part ∷ parts) k all found =
    let pair = pair_of part in
    let tests = and_parts (is_range part) (list_all is_range parts) all in
    let ends = and_parts (is_end (low_of part) && is_end (high_of part)) (nat_le pair.0 pair.1) tests.0 in
    let last = and_parts (is_end (low_of part)) (is_end (high_of part)) ends.0 in
    let small : pair.1 < 2 ^ 32 = ltb-true pair.1 (2 ^ 32) (and_parts _ (nat_lt pair.1 (2 ^ 32)) last.1).1 in
    by (is_within (interval_of pair) k) refl small found (λ rest. below parts k tests.1 rest)
  where
    by : (t : Bool) → is_within (interval_of (pair_of part)) k ≡ t → (pair_of part).1 < 2 ^ 32
        → (t || is_in (map (λ part. interval_of (pair_of part)) parts) k) ≡ true
        → (is_in (map (λ part. interval_of (pair_of part)) parts) k ≡ true → k < 2 ^ 32) → k < 2 ^ 32
    by true test small found rest =
        let within = leb-true k (pair_of part).1 (and_parts (nat_le (pair_of part).0 k) (nat_le k (pair_of part).1) test).1 in
        omega (arith, within, small)
    by false test small found rest = rest found

ranges_are : (parts : List Text) → list_all is_range parts ≡ true → IsNumberSet (set.from_list (flat_map numbers_of parts))
unfolding members
ranges_are parts all = record {
  each = λ k found. below parts k all (sym (contains-members intervals k) ∙ ap (λ (s : set.FinSet nat_cmp). set.contains s k) same ∙ found);
}
  where
    intervals : List Interval
    intervals = map (λ part. interval_of (pair_of part)) parts

    same : members intervals ≡ set.from_list (flat_map numbers_of parts)
    same = ap set.from_list (flat_map-map numbers (λ part. interval_of (pair_of part)) parts)

-- members are names
equal_by : (t x : Text) (o : Ordering) → text_cmp t x ≡ o → is_eq o ≡ true → t ≡ x
equal_by t x Less test eq = absurd (false≢true eq)
equal_by t x Equal test eq = same_from_cmp t x test
equal_by t x Greater test eq = absurd (false≢true eq)

label_among : (parts : List Text) (t : Text) → list_all is_label parts ≡ true → list_any (eq_by_cmp text_cmp t) parts ≡ true → IsLabel t
label_among [] t all found = absurd (false≢true found)
label_among (part ∷ parts) t all found =
    let tests = and_parts (is_label part) (list_all is_label parts) all in
    by (eq_by_cmp text_cmp t part) refl tests.0 found (λ rest. label_among parts t tests.1 rest)
  where
    by : (b : Bool) → eq_by_cmp text_cmp t part ≡ b → is_label part ≡ true → (b || list_any (eq_by_cmp text_cmp t) parts) ≡ true
        → (list_any (eq_by_cmp text_cmp t) parts ≡ true → IsLabel t) → IsLabel t
    by true test label found rest = subst IsLabel (sym (equal_by t part (text_cmp t part) refl test)) ((label_decides part).0 label)
    by false test label found rest = rest found

items_are : (parts : List Text) → list_all is_label parts ≡ true → IsLabelSet (set.from_list parts)
items_are parts all = record {
  each = λ t found. label_among parts t all (sym (set.contains-from_list nat_list_cmp_total parts t) ∙ found);
}

-- a scalar is valid if it is below 2^64
given_by : (body : Text) (ranges items : Bool)
    → cond ranges (list_all is_range (parts_inside body)) (cond items true (is_number body)) ≡ true
    → cond items (list_all is_label (parts_inside body)) true ≡ true
    → units_in (cond ranges (Ranges (set.from_list (flat_map numbers_of (parts_inside body)))) (cond items (Items (set.from_list (parts_inside body))) (Scalar (thousandths_of body)))) Thousandths < 2 ^ 64
    → IsGiven (cond ranges (Ranges (set.from_list (flat_map numbers_of (parts_inside body)))) (cond items (Items (set.from_list (parts_inside body))) (Scalar (thousandths_of body))))
given_by body true items numbers members small = ranges_are (parts_inside body) numbers
given_by body false true numbers members small = items_are (parts_inside body) members
given_by body false false numbers members small = small

-- ---- a resource that is added to others

not_refused : (a b c : Bool) → (if a then Some refusal.Kind else if b then Some refusal.Overlap else if c then Some refusal.TooLarge else None) ≡ None → c ≡ false
not_refused true b c is = let none : ⊥ = cc in absurd none
not_refused false true c is = let none : ⊥ = cc in absurd none
not_refused false false true is = let none : ⊥ = cc in absurd none
not_refused false false false is = refl

small_enough : (earlier : List Resource) (r : Resource) → union_refusal earlier r ≡ None → units_in r.value Thousandths < 2 ^ 64
small_enough earlier r is =
    let fits = not_refused (has_other_kind earlier r.label r.value) (is_reserved_elsewhere earlier r) (is_too_much earlier r) is in
    grind (arith, nat_tests, fits)

piece_is : (earlier : List Resource) (piece : Text) → fault_of piece ≡ None → union_refusal earlier (resource_of piece) ≡ None → IsPiece (resource_of piece)
piece_is earlier piece fault fits =
    let is = passed piece (has_bad_role (head_of piece)) fault in
    let role = role_is (head_of piece) is.role in
    record {
      label = label_is piece (has_bad_role (head_of piece)) is;
      role = role;
      role_read = parts_of_role (role_of (head_of piece)) role;
      value =
          given_by (body_of piece) (begins 91 (body_of piece)) (begins 123 (body_of piece)) is.numbers (members_are piece (has_bad_role (head_of piece)) is)
          (small_enough earlier (resource_of piece) fits);
    }

put_is : (earlier now : List Resource) (piece : Text) → IsBundle earlier → fault_of piece ≡ None → put earlier (resource_of piece) ≡ Ok now → IsBundle now
put_is earlier now piece bundle fault is = by (union_refusal earlier (resource_of piece)) refl is
  where
    by : (refused : Option AlgebraFault) → union_refusal earlier (resource_of piece) ≡ refused
        → put_or (option_map text_fault_of refused) (with_united earlier (resource_of piece)) ≡ Ok now → IsBundle now
    by None fits is =
        let same : with_united earlier (resource_of piece) ≡ now = cc in
        subst IsBundle same (bundle-with_united earlier (resource_of piece) bundle (piece_is earlier piece fault fits) fits)
    by (Some refused) fits is = let none : ⊥ = cc in absurd none

-- ---- bundles

bundle_from : (pieces : List Text) (earlier whole : List Resource) → IsBundle earlier → meaning_from pieces earlier ≡ Ok whole → IsBundle whole
bundle_from [] earlier whole bundle is = let same : earlier ≡ whole = cc in subst IsBundle same bundle
bundle_from (piece ∷ pieces) earlier whole bundle is =
    by (fault_of piece) refl (nat_lt 0 (amount_in (resource_of piece).value)) (put earlier (resource_of piece)) refl is (λ now more. bundle_from pieces now whole more)
  where
    by : (fault : Option TextFault) → fault_of piece ≡ fault → (filled : Bool) (now : Result (List Resource) TextFault) → put earlier (resource_of piece) ≡ now
        → after fault filled now earlier (meaning_from pieces) ≡ Ok whole
        → ((next : List Resource) → IsBundle next → meaning_from pieces next ≡ Ok whole → IsBundle whole) → IsBundle whole
    by (Some refused) fault filled now put_now is rest = let none : ⊥ = cc in absurd none
    by None fault false now put_now is rest = rest earlier bundle is
    by None fault true (Err refused) put_now is rest = let none : ⊥ = cc in absurd none
    by None fault true (Ok next) put_now is rest = rest next (put_is earlier next piece bundle fault put_now) is

-- the meaning of a text of a bundle is a bundle
pub bundle_is : (text : Text) (bundle : List Resource) → meaning_of text ≡ Ok bundle → IsBundle bundle
bundle_is text bundle is = bundle_from (pieces_of text) [] bundle bundle-empty is

-- ---- quantities

with_entry : (entries : List Entry) (label : Text) (amount : ℕ) → IsLabel label → amount < 2 ^ 64 → All IsEntry entries → All IsEntry (with_amount entries label amount)
with_entry [] label amount is small each = All-cons IsEntry (record { label = label; amount = amount }) [] (record { label = is; amount = small }) (All-nil IsEntry)
with_entry (e ∷ es) label amount is small each =
    let first : IsEntry (record { label = label; amount = amount }) = record { label = is; amount = small } in
    elim (cases_cmp label e.label) [
      | inl less ↦ rw less (All-cons IsEntry _ (e ∷ es) first each)
      | inr (inl equal) ↦ rw equal (All-cons IsEntry _ es first (All-tail IsEntry e es each))
      | inr (inr greater) ↦ rw greater (All-cons IsEntry e _ (All-head IsEntry e es each) (with_entry es label amount is small (All-tail IsEntry e es each)))
    ]

counted_is : (earlier now : List Entry) (label : Text) (value : Value) → IsLabel label → AreQuantities earlier → counted earlier label value ≡ Ok now → AreQuantities now
counted_is earlier now label (Scalar thousandths) label_is are is = by (nat_lt (amount_of earlier label + thousandths) (2 ^ 64)) refl is
  where
    by : (fits : Bool) → nat_lt (amount_of earlier label + thousandths) (2 ^ 64) ≡ fits
        → cond fits (Ok (with_amount earlier label (amount_of earlier label + thousandths))) (Err TooLarge) ≡ Ok now → AreQuantities now
    by true test is =
        let same : with_amount earlier label (amount_of earlier label + thousandths) ≡ now = cc in
        subst AreQuantities same (record {
          in_order = in_order-with earlier label (amount_of earlier label + thousandths) are.in_order;
          each = with_entry earlier label (amount_of earlier label + thousandths) label_is (ltb-true _ (2 ^ 64) test) are.each;
        })
    by false test is = let none : ⊥ = cc in absurd none
counted_is earlier now label (Ranges numbers) label_is are is = let none : ⊥ = cc in absurd none
counted_is earlier now label (Items members) label_is are is = let none : ⊥ = cc in absurd none

quantities_by : (pieces : List Text) (earlier whole : List Entry) → AreQuantities earlier → quantities_from pieces earlier ≡ Ok whole → AreQuantities whole
quantities_by [] earlier whole are is = let same : earlier ≡ whole = cc in subst AreQuantities same are
quantities_by (piece ∷ pieces) earlier whole are is =
    by (quantity_fault_of piece) refl (counted earlier (name_of (head_of piece)) (value_of (body_of piece))) refl is (λ now more. quantities_by pieces now whole more)
  where
    by : (fault : Option TextFault) → quantity_fault_of piece ≡ fault
        → (now : Result (List Entry) TextFault) → counted earlier (name_of (head_of piece)) (value_of (body_of piece)) ≡ now
        → after fault true now earlier (quantities_from pieces) ≡ Ok whole
        → ((next : List Entry) → AreQuantities next → quantities_from pieces next ≡ Ok whole → AreQuantities whole) → AreQuantities whole
    by (Some refused) fault now put_now is rest = let none : ⊥ = cc in absurd none
    by None fault (Err refused) put_now is rest = let none : ⊥ = cc in absurd none
    by None fault (Ok next) put_now is rest =
        let label = label_is piece (is_reserved (head_of piece)) (passed piece (is_reserved (head_of piece)) fault) in
        rest next (counted_is earlier next (name_of (head_of piece)) (value_of (body_of piece)) label are put_now) is

-- the meaning of a text of quantities is quantities
pub quantities_are : (text : Text) (entries : List Entry) → quantities_meant text ≡ Ok entries → AreQuantities entries
quantities_are text entries is = quantities_by (pieces_of text) [] entries (record { in_order = refl; each = All-nil IsEntry }) is
