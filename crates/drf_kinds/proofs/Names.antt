-- Walking through two sorted lists of texts side by side.
use Rattle.std.proofs.Common.{◌≡◌, ℕ, ◌+◌, ◌-◌, Bool, true, false, cond, eqb, ◌||◌, List, [], ◌∷◌, ◌++◌, ◌⊎◌, All, length, take, drop, take_all, get_or, Some, refl, sym, ap, ◌∙◌, subst, inl, inr, arith}
use Rattle.std.specs.Prelude.{◌↔◌, IsTrue, Result, Ok, Err, is_ok, nat_eq}
use Rattle.std.specs.declared.cmp.Ordering.{Ordering}
use Rattle.std.specs.declared.cmp.Ordering.TheVariants.{Less, Equal, Greater}
use Rattle.std.specs.Cmp.{Equal-is, tied_itself}
use Rattle.std.specs.Cmp.Lexicographic.{nat_list_cmp_total, pointwise, texts_ties}
use Rattle.std.specs.List.{AllByRecursion, dedup, dedup_from}
use Rattle.std.specs.List.Retain.{IsFiltered, DiffersFromLast}
use Rattle.std.specs.List.Sorted.{IsStrictlySortedBy, IsNonDecreasingBy, IsSorted, IsPermutation, IsSearchInRange, IsBinarySearchResult}
use Rattle.std.specs.Ordering.{eq_by_cmp, is_eq, is_lt, ordering_reverse, ordering_index}
use Rattle.std.specs.FinSet as set
use Rattle.std.proofs.Math.Bool.{or_assoc, or_self, or-false}
use Rattle.std.proofs.lemmas.Bool.{true≢false, eqb-true, eq-eqb, cases_lt}
use Rattle.std.proofs.lemmas.List.Filters.{dedup_is}
use Rattle.std.proofs.lemmas.List.Folds.{list_any_at, list_any_none, Any-from_list_any}
use Rattle.std.proofs.lemmas.List.Elements.{All-nil, All-get_or, All-from_get_or}
use Rattle.std.proofs.lemmas.List.Kept.{IsStrictlySortedBy-dedup}
use Rattle.std.proofs.lemmas.List.Sorted.{searchable_from_sorted, list_any-IsPermutation}
use Rattle.std.proofs.lemmas.Map.Keys.{sorted_head, sorted_tail, Less-from_sorted}
use Rattle.drf_role.specs.Name.{IsLabel}
use Rattle.drf_kinds.specs.Names.{text_cmp, AreAscending, AreNamesOfSet, IsLabelSet, is_named, next_side, side_of}
use Rattle.drf_kinds.specs.Sets.{is_met, is_kept}
use Rattle.drf_kinds.specs.declared.merge.Side.TheVariants.{Left, Right, Both}

pub texts_same : set.IsAntisymmetric text_cmp
texts_same = set.slice_cmp-IsAntisymmetric set.nat_cmp-IsAntisymmetric

-- the name comes before each of the names
abbrev pub IsBefore : List ℕ → List (List ℕ) → Type 0
IsBefore x ys = AllByRecursion (λ y. text_cmp x y ≡ Less) ys

IsBefore-trans : (x y : List ℕ) (ys : List (List ℕ)) → text_cmp x y ≡ Less → IsBefore y ys → IsBefore x ys
IsBefore-trans x y [] less above = tt
IsBefore-trans x y (z ∷ zs) less above = (nat_list_cmp_total.trans x y z less above.0, IsBefore-trans x y zs less above.1)

not_later : (x : List ℕ) (ys : List (List ℕ)) → IsBefore x ys → is_named ys x ≡ false
not_later x [] before = refl
not_later x (y ∷ ys) before = rw before.0 (not_later x ys before.1)

-- a text equal to x is not among names that come after x
not_named : (x : List ℕ) (ys : List (List ℕ)) (t : List ℕ) → IsBefore x ys → eq_by_cmp text_cmp t x ≡ true → is_named ys t ≡ false
not_named x ys t before is = ap (is_named ys) (texts_same t x ((Equal-is (text_cmp t x)).0 is)) ∙ not_later x ys before

named_itself : (x : List ℕ) (xs : List (List ℕ)) → is_named (x ∷ xs) x ≡ true
named_itself x xs = rw (tied_itself nat_list_cmp_total x)

pub ascending_nil : AreAscending []
unfolding IsStrictlySortedBy
ascending_nil = tt

-- all but the first
abbrev pub tail : List (List ℕ) → List (List ℕ)
tail xs = take (length xs - 1) (drop 1 xs)

tail_is : (x : List ℕ) (xs : List (List ℕ)) → tail (x ∷ xs) ≡ xs
tail_is x xs = take_all _ xs (omega arith)

-- the first of the names, and the others, which come after it
record IsFirst (xs : List (List ℕ)) (x : List ℕ) (rest : List (List ℕ)) : Type 0 where
  is : xs ≡ x ∷ rest
  before : IsBefore x rest
  ascending : AreAscending rest
  tail : tail xs ≡ rest

first_of : (x : List ℕ) (xs : List (List ℕ)) → AreAscending (x ∷ xs) → IsFirst (x ∷ xs) x xs
first_of x xs ascending = record { is = refl; before = sorted_head text_cmp x xs ascending; ascending = sorted_tail text_cmp x xs ascending; tail = tail_is x xs }

record LeftFirst (a b : List (List ℕ)) : Type 0 where
  x : List ℕ
  rest : List (List ℕ)
  first : IsFirst a x rest
  before : IsBefore x b

record BothFirst (a b : List (List ℕ)) : Type 0 where
  x : List ℕ
  left : List (List ℕ)
  right : List (List ℕ)
  first_left : IsFirst a x left
  first_right : IsFirst b x right

less_of : (r : Ordering) → Some (side_of r) ≡ Some Left → r ≡ Less
less_of Less e = refl
less_of Equal e = absurd (cc)
less_of Greater e = absurd (cc)

greater_of : (r : Ordering) → Some (side_of r) ≡ Some Right → r ≡ Greater
greater_of Less e = absurd (cc)
greater_of Equal e = absurd (cc)
greater_of Greater e = refl

equal_of : (r : Ordering) → Some (side_of r) ≡ Some Both → r ≡ Equal
equal_of Less e = absurd (cc)
equal_of Equal e = refl
equal_of Greater e = absurd (cc)

left_first : (a b : List (List ℕ)) → AreAscending a → AreAscending b → next_side a b ≡ Some Left → LeftFirst a b
left_first [] [] a_up b_up e = absurd (cc)
left_first [] (y ∷ ys) a_up b_up e = absurd (cc)
left_first (x ∷ xs) [] a_up b_up e = record { x = x; rest = xs; first = first_of x xs a_up; before = tt }
left_first (x ∷ xs) (y ∷ ys) a_up b_up e =
    let less = less_of (text_cmp x y) e in
    record { x = x; rest = xs; first = first_of x xs a_up; before = (less, IsBefore-trans x y ys less (sorted_head text_cmp y ys b_up)) }

right_first : (a b : List (List ℕ)) → AreAscending a → AreAscending b → next_side a b ≡ Some Right → LeftFirst b a
right_first [] [] a_up b_up e = absurd (cc)
right_first [] (y ∷ ys) a_up b_up e = record { x = y; rest = ys; first = first_of y ys b_up; before = tt }
right_first (x ∷ xs) [] a_up b_up e = absurd (cc)
right_first (x ∷ xs) (y ∷ ys) a_up b_up e =
    let less : text_cmp y x ≡ Less = nat_list_cmp_total.antisymm y x ∙ ap ordering_reverse (greater_of (text_cmp x y) e) in
    record { x = y; rest = ys; first = first_of y ys b_up; before = (less, IsBefore-trans y x xs less (sorted_head text_cmp x xs a_up)) }

both_first : (a b : List (List ℕ)) → AreAscending a → AreAscending b → next_side a b ≡ Some Both → BothFirst a b
both_first [] [] a_up b_up e = absurd (cc)
both_first [] (y ∷ ys) a_up b_up e = absurd (cc)
both_first (x ∷ xs) [] a_up b_up e = absurd (cc)
both_first (x ∷ xs) (y ∷ ys) a_up b_up e =
    let is : x ≡ y = texts_same x y (equal_of (text_cmp x y) e) in
    record { x = x; left = xs; right = ys; first_left = first_of x xs a_up; first_right = subst (λ z. IsFirst (y ∷ ys) z ys) (sym is) (first_of y ys b_up) }

-- no name that was passed counts as met, and the lists contain the others
pub record UnmetNames (inside : Bool) (left right : List ℕ → Bool) (a b : List (List ℕ)) : Type 0 where
  pub left_up : AreAscending a
  pub right_up : AreAscending b
  pub same : (t : List ℕ) → is_met inside (left t) (right t) ≡ is_met inside (is_named a t) (is_named b t)

is_met-inside : (e a b : Bool) → (e ≡ true → a ≡ false) → (e ≡ true → b ≡ false) → is_met true (e || a) b ≡ is_met true a b
is_met-inside true a b a_is b_is = rw (a_is refl, b_is refl)
is_met-inside false a b a_is b_is = refl

is_met-right : (inside e a b : Bool) → (e ≡ true → a ≡ false) → is_met inside a (e || b) ≡ is_met inside a b
is_met-right inside true a b a_is = rw (a_is refl)
is_met-right inside false a b a_is = refl

is_met-outside : (e a b : Bool) → (e ≡ true → a ≡ false) → is_met false (e || a) (e || b) ≡ is_met false a b
is_met-outside true a b a_is = rw (a_is refl)
is_met-outside false a b a_is = refl

left_of : (left right : List ℕ → Bool) (a b : List (List ℕ)) → UnmetNames true left right a b → LeftFirst a b → UnmetNames true left right (tail a) b
left_of left right a b known f = record {
  left_up = subst AreAscending (sym f.first.tail) f.first.ascending;
  right_up = known.right_up;
  same = λ t.
      known.same t
      ∙ rw (f.first.tail, f.first.is)
      (is_met-inside (eq_by_cmp text_cmp t f.x) (is_named f.rest t) (is_named b t) (not_named f.x f.rest t f.first.before) (not_named f.x b t f.before));
}

right_of : (inside : Bool) (left right : List ℕ → Bool) (a b : List (List ℕ)) → UnmetNames inside left right a b → LeftFirst b a → UnmetNames inside left right a (tail b)
right_of inside left right a b known f = record {
  left_up = known.left_up;
  right_up = subst AreAscending (sym f.first.tail) f.first.ascending;
  same = λ t. known.same t ∙ rw (f.first.tail, f.first.is) (is_met-right inside (eq_by_cmp text_cmp t f.x) (is_named a t) (is_named f.rest t) (not_named f.x a t f.before));
}

both_of : (left right : List ℕ → Bool) (a b : List (List ℕ)) → UnmetNames false left right a b → BothFirst a b → UnmetNames false left right (tail a) (tail b)
both_of left right a b known f = record {
  left_up = subst AreAscending (sym f.first_left.tail) f.first_left.ascending;
  right_up = subst AreAscending (sym f.first_right.tail) f.first_right.ascending;
  same = λ t.
      known.same t
      ∙ rw (f.first_left.tail, f.first_right.tail, f.first_left.is, f.first_right.is)
      (is_met-outside (eq_by_cmp text_cmp t f.x) (is_named f.left t) (is_named f.right t) (not_named f.x f.left t f.first_left.before));
}

left_met : (left right : List ℕ → Bool) (a b : List (List ℕ)) → UnmetNames false left right a b → LeftFirst a b → (t : List ℕ) × (is_met false (left t) (right t) ≡ true)
left_met left right a b known f = (f.x, known.same f.x ∙ rw (f.first.is, named_itself f.x f.rest, not_later f.x b f.before) refl)

both_met : (left right : List ℕ → Bool) (a b : List (List ℕ)) → UnmetNames true left right a b → BothFirst a b → (t : List ℕ) × (is_met true (left t) (right t) ≡ true)
both_met left right a b known f = (f.x, known.same f.x ∙ rw (f.first_left.is, f.first_right.is, named_itself f.x f.left, named_itself f.x f.right) refl)

-- passing a name that does not count as met
pub unmet_left : (inside : Bool) (left right : List ℕ → Bool) (a b : List (List ℕ)) → UnmetNames inside left right a b → inside ≡ true → next_side a b ≡ Some Left → UnmetNames inside left right (tail a) b
unmet_left true left right a b known is e = left_of left right a b known (left_first a b known.left_up known.right_up e)
unmet_left false left right a b known is e = absurd (true≢false (sym is))

pub unmet_right : (inside : Bool) (left right : List ℕ → Bool) (a b : List (List ℕ)) → UnmetNames inside left right a b → next_side a b ≡ Some Right → UnmetNames inside left right a (tail b)
unmet_right inside left right a b known e = right_of inside left right a b known (right_first a b known.left_up known.right_up e)

pub unmet_both : (inside : Bool) (left right : List ℕ → Bool) (a b : List (List ℕ)) → UnmetNames inside left right a b → inside ≡ false → next_side a b ≡ Some Both → UnmetNames inside left right (tail a) (tail b)
unmet_both false left right a b known is e = both_of left right a b known (both_first a b known.left_up known.right_up e)
unmet_both true left right a b known is e = absurd (true≢false is)

-- a name that counts as met
pub met_left : (inside : Bool) (left right : List ℕ → Bool) (a b : List (List ℕ)) → UnmetNames inside left right a b → inside ≡ false → next_side a b ≡ Some Left → (t : List ℕ) × (is_met inside (left t) (right t) ≡ true)
met_left false left right a b known is e = left_met left right a b known (left_first a b known.left_up known.right_up e)
met_left true left right a b known is e = absurd (true≢false is)

pub met_both : (inside : Bool) (left right : List ℕ → Bool) (a b : List (List ℕ)) → UnmetNames inside left right a b → inside ≡ true → next_side a b ≡ Some Both → (t : List ℕ) × (is_met inside (left t) (right t) ≡ true)
met_both true left right a b known is e = both_met left right a b known (both_first a b known.left_up known.right_up e)
met_both false left right a b known is e = absurd (true≢false (sym is))

-- each name that was found comes before each that is still to come
abbrev pub AreBefore : List (List ℕ) → List (List ℕ) → Type 0
AreBefore [] xs = Unit {0}
AreBefore (f ∷ fs) xs = IsBefore f xs × AreBefore fs xs

-- the names found so far are those to be kept, in order; the rest of the lists is still to come
pub record FoundNames (united : Bool) (left right : List ℕ → Bool) (a b found : List (List ℕ)) : Type 0 where
  pub left_up : AreAscending a
  pub right_up : AreAscending b
  pub found_up : AreAscending found
  pub before_left : AreBefore found a
  pub before_right : AreBefore found b
  pub same : (t : List ℕ) → (is_named found t || is_kept united (is_named a t) (is_named b t)) ≡ is_kept united (left t) (right t)

AreBefore-tail : (found : List (List ℕ)) (x : List ℕ) (xs : List (List ℕ)) → AreBefore found (x ∷ xs) → AreBefore found xs
AreBefore-tail [] x xs before = tt
AreBefore-tail (f ∷ fs) x xs before = (before.0.1, AreBefore-tail fs x xs before.1)

AreBefore-append : (found : List (List ℕ)) (x : List ℕ) (xs : List (List ℕ)) → AreBefore found xs → IsBefore x xs → AreBefore (found ++ x ∷ []) xs
AreBefore-append [] x xs before first = (first, tt)
AreBefore-append (f ∷ fs) x xs before first = (before.0, AreBefore-append fs x xs before.1 first)

IsBefore-append : (f : List ℕ) (fs : List (List ℕ)) (x : List ℕ) → IsBefore f fs → text_cmp f x ≡ Less → IsBefore f (fs ++ x ∷ [])
IsBefore-append f [] x before less = (less, tt)
IsBefore-append f (g ∷ gs) x before less = (before.0, IsBefore-append f gs x before.1 less)

AreAscending-append : (found : List (List ℕ)) (x : List ℕ) (xs : List (List ℕ)) → AreAscending found → AreBefore found (x ∷ xs) → AreAscending (found ++ x ∷ [])
unfolding IsStrictlySortedBy
AreAscending-append [] x xs up before = (tt, tt)
AreAscending-append (f ∷ fs) x xs up before = (IsBefore-append f fs x up.0 before.0.0, AreAscending-append fs x xs up.1 before.1)

is_named-append : (found : List (List ℕ)) (x t : List ℕ) → is_named (found ++ x ∷ []) t ≡ (is_named found t || eq_by_cmp text_cmp t x)
is_named-append [] x t = or-false (eq_by_cmp text_cmp t x)
is_named-append (f ∷ fs) x t = ap (λ b. eq_by_cmp text_cmp t f || b) (is_named-append fs x t) ∙ sym (or_assoc (eq_by_cmp text_cmp t f) (is_named fs t) (eq_by_cmp text_cmp t x))

kept_left : (united f e a b : Bool) → (e ≡ true → b ≡ false) → ((f || e) || is_kept united a b) ≡ (f || is_kept united (e || a) b)
kept_left united true e a b b_is = refl
kept_left true false true a b b_is = refl
kept_left false false true a b b_is = rw (b_is refl) refl
kept_left united false false a b b_is = refl

kept_comm : (a b : Bool) → is_kept true a b ≡ is_kept true b a
kept_comm true true = refl
kept_comm true false = refl
kept_comm false true = refl
kept_comm false false = refl

kept_past : (e a b : Bool) → (e ≡ true → a ≡ false) → is_kept false a b ≡ is_kept false a (e || b)
kept_past true a b a_is = rw (a_is refl) refl
kept_past false a b a_is = refl

kept_right : (e a b : Bool) → is_kept true (e || a) b ≡ is_kept true (e || a) (e || b)
kept_right true a b = refl
kept_right false a b = refl

kept_both : (e a b : Bool) → (e ≡ true → a ≡ false) → is_kept false a b ≡ is_kept false (e || a) (e || b)
kept_both true a b a_is = rw (a_is refl) refl
kept_both false a b a_is = refl

in_either : (united a b : Bool) → is_kept united a b ≡ true → (a ≡ true) ⊎ (b ≡ true)
in_either united true b e = inl refl
in_either united false true e = inr refl
in_either true false false e = absurd (true≢false (sym e))
in_either false false false e = absurd (true≢false (sym e))

found_left_of : (united : Bool) (left right : List ℕ → Bool) (a b found : List (List ℕ)) → FoundNames united left right a b found → (f : LeftFirst a b) → FoundNames united left right (tail a) b (found ++ f.x ∷ [])
found_left_of united left right a b found known f =
    let before : AreBefore found (f.x ∷ f.rest) = subst (AreBefore found) f.first.is known.before_left in
    record {
      left_up = subst AreAscending (sym f.first.tail) f.first.ascending;
      right_up = known.right_up;
      found_up = AreAscending-append found f.x f.rest known.found_up before;
      before_left = subst (AreBefore (found ++ f.x ∷ [])) (sym f.first.tail) (AreBefore-append found f.x f.rest (AreBefore-tail found f.x f.rest before) f.first.before);
      before_right = AreBefore-append found f.x b known.before_right f.before;
      same = λ t.
          rw (is_named-append found f.x t, f.first.tail)
          (kept_left united (is_named found t) (eq_by_cmp text_cmp t f.x) (is_named f.rest t) (is_named b t) (not_named f.x b t f.before)
          ∙ ap (λ xs. is_named found t || is_kept united (is_named xs t) (is_named b t)) (sym f.first.is)
          ∙ known.same t);
    }

-- the two lists are exchanged
swapped : (left right : List ℕ → Bool) (a b found : List (List ℕ)) → FoundNames true left right a b found → FoundNames true right left b a found
swapped left right a b found known = record {
  left_up = known.right_up;
  right_up = known.left_up;
  found_up = known.found_up;
  before_left = known.before_right;
  before_right = known.before_left;
  same = λ t. ap (λ d. is_named found t || d) (kept_comm (is_named b t) (is_named a t)) ∙ known.same t ∙ kept_comm (left t) (right t);
}

pub found_start : (united : Bool) (a b : List (List ℕ)) → AreAscending a → AreAscending b → FoundNames united (is_named a) (is_named b) a b []
found_start united a b a_up b_up = record { left_up = a_up; right_up = b_up; found_up = ascending_nil; before_left = tt; before_right = tt; same = λ t. refl }

pub found_left : (united : Bool) (left right : List ℕ → Bool) (a b found : List (List ℕ)) (x y : List ℕ) → FoundNames united left right a b found → next_side a b ≡ Some Left → x ≡ y → y ≡ get_or a 0 y → FoundNames united left right (tail a) b (found ++ x ∷ [])
found_left united left right a b found x y known e x_is y_is =
    let f = left_first a b known.left_up known.right_up e in
    let is : f.x ≡ x = sym (x_is ∙ y_is ∙ ap (λ xs. get_or xs 0 y) f.first.is) in
    subst (λ z. FoundNames united left right (tail a) b (found ++ z ∷ [])) is (found_left_of united left right a b found known f)

found_right_of : (left right : List ℕ → Bool) (a b found : List (List ℕ)) (x y : List ℕ) → FoundNames true left right a b found → next_side a b ≡ Some Right → x ≡ y → y ≡ get_or b 0 y → FoundNames true left right a (tail b) (found ++ x ∷ [])
found_right_of left right a b found x y known e x_is y_is =
    let f = right_first a b known.left_up known.right_up e in
    let is : f.x ≡ x = sym (x_is ∙ y_is ∙ ap (λ xs. get_or xs 0 y) f.first.is) in
    subst (λ z. FoundNames true left right a (tail b) (found ++ z ∷ [])) is (swapped right left (tail b) a (found ++ f.x ∷ []) (found_left_of true right left b a found (swapped left right a b found known) f))

found_past_of : (left right : List ℕ → Bool) (a b found : List (List ℕ)) → FoundNames false left right a b found → LeftFirst b a → FoundNames false left right a (tail b) found
found_past_of left right a b found known f = record {
  left_up = known.left_up;
  right_up = subst AreAscending (sym f.first.tail) f.first.ascending;
  found_up = known.found_up;
  before_left = known.before_left;
  before_right = subst (AreBefore found) (sym f.first.tail) (AreBefore-tail found f.x f.rest (subst (AreBefore found) f.first.is known.before_right));
  same = λ t.
      ap (λ d. is_named found t || d)
      (rw (f.first.tail, f.first.is) (kept_past (eq_by_cmp text_cmp t f.x) (is_named a t) (is_named f.rest t) (not_named f.x a t f.before)))
      ∙ known.same t;
}

-- a name that is only in the right list is kept if the lists are united, and skipped otherwise
pub found_right : (united : Bool) (left right : List ℕ → Bool) (a b found : List (List ℕ)) (x y : List ℕ) → FoundNames united left right a b found → united ≡ true → next_side a b ≡ Some Right → x ≡ y → y ≡ get_or b 0 y → FoundNames united left right a (tail b) (found ++ x ∷ [])
found_right true left right a b found x y known in_both e x_is y_is = found_right_of left right a b found x y known e x_is y_is
found_right false left right a b found x y known in_both e x_is y_is = absurd (true≢false (sym in_both))

pub found_past : (united : Bool) (left right : List ℕ → Bool) (a b found : List (List ℕ)) → FoundNames united left right a b found → united ≡ false → next_side a b ≡ Some Right → FoundNames united left right a (tail b) found
found_past true left right a b found known out e = absurd (true≢false out)
found_past false left right a b found known out e = found_past_of left right a b found known (right_first a b known.left_up known.right_up e)

found_both_of : (left right : List ℕ → Bool) (a b found : List (List ℕ)) → FoundNames false left right a b found → BothFirst a b → FoundNames false left right (tail a) (tail b) found
found_both_of left right a b found known f = record {
  left_up = subst AreAscending (sym f.first_left.tail) f.first_left.ascending;
  right_up = subst AreAscending (sym f.first_right.tail) f.first_right.ascending;
  found_up = known.found_up;
  before_left = subst (AreBefore found) (sym f.first_left.tail) (AreBefore-tail found f.x f.left (subst (AreBefore found) f.first_left.is known.before_left));
  before_right = subst (AreBefore found) (sym f.first_right.tail) (AreBefore-tail found f.x f.right (subst (AreBefore found) f.first_right.is known.before_right));
  same = λ t.
      rw (f.first_left.tail, f.first_right.tail)
      (ap (λ d. is_named found t || d) (kept_both (eq_by_cmp text_cmp t f.x) (is_named f.left t) (is_named f.right t) (not_named f.x f.left t f.first_left.before))
      ∙ ap (λ xs. is_named found t || is_kept false (is_named xs t) (eq_by_cmp text_cmp t f.x || is_named f.right t)) (sym f.first_left.is)
      ∙ ap (λ xs. is_named found t || is_kept false (is_named a t) (is_named xs t)) (sym f.first_right.is)
      ∙ known.same t);
}

found_shared_of : (left right : List ℕ → Bool) (a b found : List (List ℕ)) → FoundNames true left right a b found → BothFirst a b → FoundNames true left right a (tail b) found
found_shared_of left right a b found known f = record {
  left_up = known.left_up;
  right_up = subst AreAscending (sym f.first_right.tail) f.first_right.ascending;
  found_up = known.found_up;
  before_left = known.before_left;
  before_right = subst (AreBefore found) (sym f.first_right.tail) (AreBefore-tail found f.x f.right (subst (AreBefore found) f.first_right.is known.before_right));
  same = λ t.
      ap (λ d. is_named found t || d)
      (rw (f.first_right.tail, f.first_left.is, f.first_right.is) (kept_right (eq_by_cmp text_cmp t f.x) (is_named f.left t) (is_named f.right t)))
      ∙ known.same t;
}

-- a name in both lists is skipped in both, or stays in the left one to be kept
pub found_both : (united : Bool) (left right : List ℕ → Bool) (a b found : List (List ℕ)) → FoundNames united left right a b found → united ≡ false → next_side a b ≡ Some Both → FoundNames united left right (tail a) (tail b) found
found_both true left right a b found known out e = absurd (true≢false out)
found_both false left right a b found known out e = found_both_of left right a b found known (both_first a b known.left_up known.right_up e)

pub found_shared : (united : Bool) (left right : List ℕ → Bool) (a b found : List (List ℕ)) → FoundNames united left right a b found → united ≡ true → next_side a b ≡ Some Both → FoundNames united left right a (tail b) found
found_shared true left right a b found known in_both e = found_shared_of left right a b found known (both_first a b known.left_up known.right_up e)
found_shared false left right a b found known in_both e = absurd (true≢false (sym in_both))

-- the members of the set of a list of names
pub contains-names : (names : List (List ℕ)) (t : List ℕ) → set.contains (set.from_list {R = text_cmp} names) t ≡ is_named names t
contains-names names t = set.contains-from_list nat_list_cmp_total names t

pub len-names : (names : List (List ℕ)) → AreAscending names → set.len (set.from_list {R = text_cmp} names) ≡ length names
len-names [] up = set.len-empty text_cmp
len-names (x ∷ xs) up =
    set.len-insert nat_list_cmp_total (set.from_list xs) x
    ∙ ap (λ b. cond b (set.len (set.from_list {R = text_cmp} xs)) (set.len (set.from_list {R = text_cmp} xs) + 1)) (contains-names xs x ∙ not_later x xs (sorted_head text_cmp x xs up))
    ∙ omega (arith, len-names xs (sorted_tail text_cmp x xs up))

pub no_names : (names : List (List ℕ)) (s : set.FinSet text_cmp) (len : ℕ) (empty : Bool) → AreAscending names → set.from_list names ≡ s → len ≡ length names → empty ≡ eqb len 0 → IsTrue empty ↔ (s ≡ set.empty)
no_names names s len empty up s_is len_is empty_is = (
  λ e. set.empty_of_len s (ap set.len (sym s_is) ∙ len-names names up ∙ sym len_is ∙ eqb-true len 0 (sym empty_is ∙ e)),
  λ none.
      empty_is ∙ eq-eqb len 0 (len_is ∙ sym (len-names names up) ∙ ap set.len (s_is ∙ none) ∙ set.len-empty text_cmp),
)

-- sets of texts with the same members are equal
pub same_texts : (a b : set.FinSet text_cmp) → ((t : List ℕ) → set.contains a t ≡ set.contains b t) → a ≡ b
same_texts a b each = set.same_set nat_list_cmp_total texts_same a b each

-- the members of a set, in terms of its names
pub contains-view : (names others : List (List ℕ)) (s : set.FinSet text_cmp) → others ≡ names → set.from_list names ≡ s → (t : List ℕ) → set.contains s t ≡ is_named others t
contains-view names others s others_is s_is t = ap (λ r. set.contains r t) (sym s_is) ∙ contains-names names t ∙ ap (λ xs. is_named xs t) (sym others_is)

-- the set of a list of labels is a set of labels
pub IsLabelSet-names : (names : List (List ℕ)) → All IsLabel names → IsLabelSet (set.from_list names)
IsLabelSet-names names labels = record {
  each = λ t is.
      let found = Any-from_list_any (eq_by_cmp text_cmp t) names (sym (contains-names names t) ∙ is) in
      let same : t ≡ found.1 = texts_same t found.1 ((Equal-is (text_cmp t found.1)).0 found.4) in
      subst IsLabel (sym same) (subst IsLabel found.3 (All-get_or IsLabel names found.0 found.1 found.2 labels));
}

-- each name in a set of labels is a label
pub labels_of : (names : List (List ℕ)) → IsLabelSet (set.from_list names) → All IsLabel names
labels_of names given =
    All-from_get_or IsLabel names [] (λ k below.
    given.each (get_or names k []) (contains-names names (get_or names k []) ∙ list_any_at (eq_by_cmp text_cmp (get_or names k [])) names k [] below (ap is_eq (tied_itself nat_list_cmp_total (get_or names k [])))))

-- a set whose members are in one of two sets of labels is a set of labels
pub IsLabelSet-kept : (united : Bool) (a b found : set.FinSet text_cmp) → IsLabelSet a → IsLabelSet b → ((t : List ℕ) → set.contains found t ≡ is_kept united (set.contains a t) (set.contains b t)) → IsLabelSet found
IsLabelSet-kept united a b found a_given b_given is = record {
  each = λ t in_found.
      elim (in_either united (set.contains a t) (set.contains b t) (sym (is t) ∙ in_found)) [ inl in_a ↦ a_given.each t in_a | inr in_b ↦ b_given.each t in_b ];
}

-- the set of sorted names without repetitions
deduped : (k : List ℕ) (xs : List (List ℕ)) (t : List ℕ) → is_named (dedup_from (pointwise nat_eq) k xs) t ≡ (eq_by_cmp text_cmp t k || is_named xs t)
deduped k [] t = refl
deduped k (x ∷ xs) t =
    elim (pointwise nat_eq x k) as (λ b. pointwise nat_eq x k ≡ b → is_named (cond b (dedup_from (pointwise nat_eq) k xs) (k ∷ dedup_from (pointwise nat_eq) x xs)) t ≡ (eq_by_cmp text_cmp t k || (eq_by_cmp text_cmp t x || is_named xs t))) [
      | true ↦ λ same.
          let is : x ≡ k = texts_same x k ((Equal-is (text_cmp x k)).0 (sym (texts_ties x k) ∙ same)) in
          let first = eq_by_cmp text_cmp t k in
          deduped k xs t ∙ rw is (ap (λ b. b || is_named xs t) (sym (or_self first)) ∙ or_assoc first first (is_named xs t))
      | false ↦ λ other. ap (λ b. eq_by_cmp text_cmp t k || b) (deduped x xs t)
    ] refl

is_named-dedup : (xs : List (List ℕ)) (t : List ℕ) → is_named (dedup (pointwise nat_eq) xs) t ≡ is_named xs t
is_named-dedup [] t = refl
is_named-dedup (x ∷ xs) t = deduped x xs t

kept_ascending : (sorted kept : List (List ℕ)) → IsSorted text_cmp sorted → IsFiltered (DiffersFromLast (pointwise nat_eq)) [] sorted kept → AreAscending kept
kept_ascending sorted kept up is = rw (dedup_is (pointwise nat_eq) sorted kept is) (IsStrictlySortedBy-dedup nat_list_cmp_total texts_ties sorted up)

pub same_kept : (names sorted kept : List (List ℕ)) → IsPermutation names sorted → IsFiltered (DiffersFromLast (pointwise nat_eq)) [] sorted kept → set.from_list {R = text_cmp} kept ≡ set.from_list names
same_kept names sorted kept moved is =
    same_texts (set.from_list kept) (set.from_list names)
    (λ t.
    contains-names kept t
    ∙ ap (λ xs. is_named xs t) (dedup_is (pointwise nat_eq) sorted kept is)
    ∙ is_named-dedup sorted t
    ∙ sym (list_any-IsPermutation (eq_by_cmp text_cmp t) names sorted moved)
    ∙ sym (contains-names names t))

pub kept_names : (names sorted kept : List (List ℕ)) → All IsLabel names → IsPermutation names sorted → IsSorted text_cmp sorted → IsFiltered (DiffersFromLast (pointwise nat_eq)) [] sorted kept → AreNamesOfSet kept
kept_names names sorted kept labels moved up is = record { ascending = kept_ascending sorted kept up is; given = subst IsLabelSet (sym (same_kept names sorted kept moved is)) (IsLabelSet-names names labels) }

pub no_names_of_set : AreNamesOfSet []
no_names_of_set = record { ascending = ascending_nil; given = IsLabelSet-names [] (All-nil IsLabel) }

-- the result of a binary search
turned : (x y : List ℕ) (r : Ordering) → text_cmp x y ≡ r → text_cmp y x ≡ ordering_reverse r
turned x y r e = nat_list_cmp_total.antisymm y x ∙ ap ordering_reverse e

searchable : (names : List (List ℕ)) (t : List ℕ) → AreAscending names → IsNonDecreasingBy (λ y. ordering_index (text_cmp y t)) names
searchable names t up =
    searchable_from_sorted nat_list_cmp_total (λ x. x) names t
    (λ k d _ below. ap is_lt (turned (get_or names k d) (get_or names (k + 1) d) Less (Less-from_sorted text_cmp names k (k + 1) d up (omega arith) below)))

pub named_where_found : (names : List (List ℕ)) (t : List ℕ) (r : Result ℕ ℕ) → AreAscending names → IsSearchInRange r (length names) → IsBinarySearchResult (λ y. text_cmp y t) names r → is_ok r ≡ is_named names t
named_where_found names t (Ok i) up within found =
    sym (list_any_at (eq_by_cmp text_cmp t) names i t within (ap is_eq (turned (get_or names i t) t Equal (found t))))
named_where_found names t (Err i) up within found =
    let point = found (searchable names t up) in
    sym (list_any_none (eq_by_cmp text_cmp t) names (λ k d below.
    elim (cases_lt k i) [
      | inl before ↦ ap is_eq (turned (get_or names k d) t Less (point.0 k d (omega arith) before))
      | inr after ↦ ap is_eq (turned (get_or names k d) t Greater (point.1 k d after below))
    ]))
