-- The resources of one name, which are neighbours in a list in order.
use Rattle.std.specs.Prelude.{◌≡◌, ℕ, ◌+◌, ◌-◌, ◌<◌, ◌&&◌, ◌||◌, Bool, true, false, List, [], ◌∷◌, length, take, drop, filter, IsTrue}
use Rattle.std.specs.List.{list_any}
use Rattle.std.specs.List.Sorted.{IsPartitionedBy, IsPartitionPoint}
use Rattle.std.specs.Ordering.{nat_cmp, is_lt}
use Rattle.std.specs.Cmp.Lexicographic.{slice_cmp}
use Rattle.std.proofs.Common.{zero, suc, get_or, refl, sym, ap, ◌∙◌, subst, inl, inr, arith}
use Rattle.std.proofs.lemmas.Bool.{false≢true, cases_Bool, cases_lt}
use Rattle.std.proofs.lemmas.List.{get_or-drop, length-drop}
use Rattle.drf_role.specs.Text.{Text, same_text, text_below}
use Rattle.drf_role.specs.TextLaws.{same_from_test, test_from_same, below_from_cmp, below_trans}
use Rattle.drf_role.proofs.TextLaws.{below_other}
use Rattle.drf_bundle.specs.Bundle.{key_of, is_in_order}
use Rattle.drf_bundle.specs.laws.KeyLaws.{cases_below}
use Rattle.drf_bundle.specs.declared.resource.Resource.{Resource}
use Rattle.drf_bundle.proofs.SearchLemmas.{in_order_at}

-- ---- filters of lists whose passing elements are neighbours

pub any-filter : {A : Type 0} (p test : A → Bool) (xs : List A)
    → list_any test (filter p xs) ≡ list_any (λ x. p x && test x) xs
any-filter p test [] = refl
any-filter p test (x ∷ xs) = elim (cases_Bool (p x)) [
  | inl passes ↦ rw passes (ap (λ (b : Bool). test x || b) (any-filter p test xs))
  | inr fails ↦ rw fails (any-filter p test xs)
]

-- elements before those that pass are dropped
filter-past : {A : Type 0} (p : A → Bool) (xs : List A) (i : ℕ)
    → ((k : ℕ) (d : A) → k < i → k < length xs → p (get_or xs k d) ≡ false) → filter p (drop i xs) ≡ filter p xs
filter-past p xs zero before = refl
filter-past p [] (suc i) before = refl
filter-past p (x ∷ xs) (suc i) before =
    rw (before 0 x (omega arith) (omega arith)) (filter-past p xs i (λ k d lt in_range. before (suc k) d (omega arith) (omega arith)))

filter-none : {A : Type 0} (p : A → Bool) (xs : List A) → ((k : ℕ) (d : A) → k < length xs → p (get_or xs k d) ≡ false)
    → filter p xs ≡ []
filter-none p [] none = refl
filter-none p (x ∷ xs) none = rw (none 0 x (omega arith)) (filter-none p xs (λ k d lt. none (suc k) d (omega arith)))

-- those that pass are the first
filter-prefix : {A : Type 0} (p : A → Bool) (xs : List A) (n : ℕ) → IsPartitionPoint (λ x. p x ≡ true) (λ x. p x ≡ false) xs n
    → take n xs ≡ filter p xs
filter-prefix p xs zero parted = sym (filter-none p xs (λ k d lt. parted.1 k d (omega arith) lt))
filter-prefix p [] (suc n) parted = refl
filter-prefix {A} p (x ∷ xs) (suc n) parted =
    rw (parted.0 0 x (omega arith) (omega arith)) (ap (λ (l : List A). x ∷ l) (filter-prefix p xs n
    (λ k d le lt. parted.0 (suc k) d (omega arith) (omega arith), λ k d le lt. parted.1 (suc k) d (omega arith) (omega arith))))

-- ---- names in order

abbrev pub is_before : Text → Resource → Bool
is_before name r = is_lt (slice_cmp nat_cmp r.label name)

abbrev pub has_name : Text → Resource → Bool
has_name name r = same_text r.label name

module _ (rs : List Resource) (name : Text) (ordered : IsTrue (is_in_order rs)) where
  -- smaller names come first
  pub names_rise : IsPartitionedBy (is_before name) rs
  names_rise i j d le in_range below = elim (cases_lt i j) [
    | inl before ↦ elim (cases_below (key_of (get_or rs i d)) (key_of (get_or rs j d)) (in_order_at rs i j d ordered before in_range)) [
      | inl less ↦ below_trans (get_or rs i d).label (get_or rs j d).label name (below_from_cmp (get_or rs i d).label (get_or rs j d).label less) below
      | inr same ↦ subst (λ (t : Text). IsTrue (text_below t name)) (sym same.0) below
    ]
    | inr after ↦ let same : j ≡ i = omega arith in subst (λ (k : ℕ). is_before name (get_or rs k d) ≡ true) same below
  ]

  module _ (start : ℕ) (rest : List Resource) (is_rest : rest ≡ drop start rs) (parted : IsPartitionPoint (λ r. is_before name r ≡ true) (λ r. is_before name r ≡ false) rs start) where
    at_rest : (k : ℕ) (d : Resource) → get_or rest k d ≡ get_or rs (start + k) d
    at_rest k d = ap (λ (l : List Resource). get_or l k d) is_rest ∙ get_or-drop start rs k d

    long : length rest ≡ length rs - start
    long = ap length is_rest ∙ length-drop start rs

    -- resources with the name are the first of the others
    pub named_rise : IsPartitionedBy (has_name name) rest
    named_rise i j d le in_range named = elim (cases_lt i j) [
      | inl before ↦
          let at_j : (get_or rs (start + j) d).label ≡ name = ap (λ (r : Resource). r.label) (sym (at_rest j d)) ∙ same_from_test (get_or rest j d).label name named in
          rw (at_rest i d) (elim (cases_below (key_of (get_or rs (start + i) d)) (key_of (get_or rs (start + j) d)) (in_order_at rs (start + i) (start + j) d ordered (omega arith) (omega (arith, long)))) [
            | inl less ↦ absurd (false≢true (sym (parted.1 (start + i) d (omega arith) (omega (arith, long)))
                ∙ subst (λ (t : Text). IsTrue (text_below (get_or rs (start + i) d).label t)) at_j (below_from_cmp (get_or rs (start + i) d).label (get_or rs (start + j) d).label less)))
            | inr same ↦ test_from_same (get_or rs (start + i) d).label name (same.0 ∙ at_j)
          ])
      | inr after ↦ let same : j ≡ i = omega arith in subst (λ (k : ℕ). has_name name (get_or rest k d) ≡ true) same named
    ]

    pub named_is : (count : ℕ) → IsPartitionPoint (λ r. has_name name r ≡ true) (λ r. has_name name r ≡ false) rest count
        → take count rest ≡ filter (has_name name) rs
    named_is count prefix =
        filter-prefix (has_name name) rest count prefix ∙ ap (filter (has_name name)) is_rest
        ∙ filter-past (has_name name) rs start (λ k d lt in_range. below_other (get_or rs k d).label name (parted.0 k d (omega arith) lt))
