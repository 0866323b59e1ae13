-- The steps of walking through two lists of resources.
use Rattle.std.specs.Prelude.{◌≡◌, ℕ, ◌+◌, ◌-◌, ◌<◌, ◌≤◌, ◌^◌, ◌&&◌, ◌||◌, Bool, true, false, not, List, [], ◌∷◌, ◌++◌, length, take, drop, Some, None, IsTrue}
use Rattle.std.specs.List.{list_all}
use Rattle.std.proofs.Common.{Ordering, Less, Equal, Greater, refl, sym, ap, ◌∙◌, subst, inl, inr, arith, get_or, append_assoc, take_all, add-one}
use Rattle.std.proofs.lemmas.List.{append-nil}
use Rattle.std.proofs.Math.Seq.{drop-cons}
use Rattle.std.proofs.lemmas.Bool.{false≢true, true≢false, not-true, and_parts, and_from, cases_Bool}
use Rattle.drf_role.specs.Text.{Text, same_text, text_below}
use Rattle.drf_role.specs.TextLaws.{cases_cmp, same_from_test, same_from_cmp, below_from_cmp, above_from_cmp, below_trans, cmp_itself, test_from_same}
use Rattle.drf_role.proofs.TextLaws.{below_other, above_other}
use Rattle.drf_bundle.specs.Value.{Point, Thousandths, units_in, clash_in}
use Rattle.drf_bundle.specs.Bundle.{key_of, key_cmp, key_below, is_in_order, stock, both_of, merged, clashes_with_some, have_clash}
use Rattle.drf_bundle.specs.laws.KeyLaws.{stands_first, cases_below, key_equal, where-cons}
use Rattle.drf_bundle.specs.laws.SumLaws.{of_name}
use Rattle.drf_bundle.specs.laws.FitLaws.{fits_less, stock_of_both, stock_has}
use Rattle.drf_bundle.specs.laws.JoinLaws.{merged-empty}
use Rattle.drf_bundle.specs.Sides.{FitTogether, side_of, next_side, names_cmp, none_before}
use Rattle.drf_bundle.specs.declared.merge.Side.TheVariants.{Left, Right, Both}
use Rattle.drf_bundle.specs.declared.resource.Resource.{Resource}
use Rattle.drf_bundle.specs.declared.value.Clash.{Clash}

-- all but the first
abbrev pub tail : List Resource → List Resource
tail rs = take (length rs - 1) (drop 1 rs)

pub tail_is : (r : Resource) (rs : List Resource) → tail (r ∷ rs) ≡ rs
tail_is r rs = take_all _ _ (omega arith)

stock_tail : (rs : List Resource) (name : Text) (p : Point) → stock (tail rs) name p ≤ stock rs name p
stock_tail [] name p = omega arith
stock_tail (r ∷ rs) name p = rw (tail_is r rs) (omega (arith, where-cons (of_name name) p r rs))

-- ---- the steps of a merge

pub side_less : (o : Ordering) → Some (side_of o) ≡ Some Left → o ≡ Less
side_less Less e = refl
side_less Equal e = cc
side_less Greater e = cc

pub side_equal : (o : Ordering) → Some (side_of o) ≡ Some Both → o ≡ Equal
side_equal Less e = cc
side_equal Equal e = refl
side_equal Greater e = cc

pub side_greater : (o : Ordering) → Some (side_of o) ≡ Some Right → o ≡ Greater
side_greater Less e = cc
side_greater Equal e = cc
side_greater Greater e = refl

pub step_left : (a b : List Resource) (y : Resource) → next_side a b ≡ Some Left → y ≡ get_or a 0 y
    → merged a b ≡ y ∷ merged (tail a) b
step_left [] [] y side is = cc
step_left [] (s ∷ ss) y side is = cc
step_left (r ∷ rs) [] y side is = rw (tail_is r rs, merged-empty rs) (ap (λ (x : Resource). x ∷ rs) (sym is))
step_left (r ∷ rs) (s ∷ ss) y side is = rw (side_less (key_cmp (key_of r) (key_of s)) side, tail_is r rs) (ap (λ (x : Resource). x ∷ merged rs (s ∷ ss)) (sym is))

pub step_right : (a b : List Resource) (y : Resource) → next_side a b ≡ Some Right → y ≡ get_or b 0 y
    → merged a b ≡ y ∷ merged a (tail b)
step_right [] [] y side is = cc
step_right [] (s ∷ ss) y side is = rw (tail_is s ss) (ap (λ (x : Resource). x ∷ ss) (sym is))
step_right (r ∷ rs) [] y side is = cc
step_right (r ∷ rs) (s ∷ ss) y side is =
    let first : merged (r ∷ rs) (s ∷ ss) ≡ s ∷ merged (r ∷ rs) ss = rw (side_greater (key_cmp (key_of r) (key_of s)) side) refl in
    first ∙ (λ i. sym is i ∷ merged (r ∷ rs) (sym (tail_is s ss) i))

pub step_both : (a b : List Resource) (y z : Resource) → next_side a b ≡ Some Both → y ≡ get_or a 0 y → z ≡ get_or b 0 z
    → merged a b ≡ both_of y z ∷ merged (tail a) (tail b)
step_both [] [] y z side is other = cc
step_both [] (s ∷ ss) y z side is other = cc
step_both (r ∷ rs) [] y z side is other = cc
step_both (r ∷ rs) (s ∷ ss) y z side is other =
    let first : merged (r ∷ rs) (s ∷ ss) ≡ both_of r s ∷ merged rs ss = rw (side_equal (key_cmp (key_of r) (key_of s)) side) refl in
    first ∙ (λ i. both_of (sym is i) (sym other i) ∷ merged (sym (tail_is r rs) i) (sym (tail_is s ss) i))

-- if two lists fit together, so do their remaining parts
pub fits_left : (a b : List Resource) → FitTogether a b → FitTogether (tail a) b
fits_left a b fits = fits_less (stock_of_both a b) (stock_of_both (tail a) b) fits (λ name p. omega (arith, stock_tail a name p))

pub fits_right : (a b : List Resource) → FitTogether a b → FitTogether a (tail b)
fits_right a b fits = fits_less (stock_of_both a b) (stock_of_both a (tail b)) fits (λ name p. omega (arith, stock_tail b name p))

-- so the scalars of two resources that are united are not too large together
pub small_together : (a b : List Resource) (y z : Resource) → next_side a b ≡ Some Both → y ≡ get_or a 0 y → z ≡ get_or b 0 z
    → FitTogether a b → units_in y.value Thousandths + units_in z.value Thousandths < 2 ^ 64
small_together [] [] y z side is other fits = cc
small_together [] (s ∷ ss) y z side is other fits = cc
small_together (r ∷ rs) [] y z side is other fits = cc
small_together (r ∷ rs) (s ∷ ss) y z side is other fits =
    let keys = key_equal (key_of r) (key_of s) (side_equal (key_cmp (key_of r) (key_of s)) side) in
    let there : units_in s.value Thousandths ≤ stock (s ∷ ss) r.label Thousandths =
    subst (λ (t : Text). units_in s.value Thousandths ≤ stock (s ∷ ss) t Thousandths) (λ i. (sym keys i).0) (stock_has (s ∷ ss) s Thousandths (inl refl)) in
    omega (
      arith,
      ap (λ (t : Resource). units_in t.value Thousandths) is,
      ap (λ (t : Resource). units_in t.value Thousandths) other,
      stock_has (r ∷ rs) r Thousandths (inl refl),
      there,
      fits.at_most r.label Thousandths,
    )

-- what was found and what remains make the whole
pub pushed : (found left more whole : List Resource) (x y : Resource) → found ++ left ≡ whole → left ≡ y ∷ more → x ≡ y
    → (found ++ x ∷ []) ++ more ≡ whole
pushed found left more whole x y known is same =
    append_assoc found (x ∷ []) more ∙ (λ i. found ++ same i ∷ more) ∙ ap (λ (l : List Resource). found ++ l) (sym is) ∙ known

pub at_end : (a b found whole : List Resource) → next_side a b ≡ None → found ++ merged a b ≡ whole → found ≡ whole
at_end [] [] found whole side known = sym (append-nil found) ∙ known
at_end [] (s ∷ ss) found whole side known = cc
at_end (r ∷ rs) [] found whole side known = cc
at_end (r ∷ rs) (s ∷ ss) found whole side known = cc

-- ---- the steps of a search for a clash

abbrev pub test_of : Clash → Resource → Resource → Bool
test_of clash r s = same_text r.label s.label && clash_in clash r.value s.value

below_itself : (t : Text) → text_below t t ≡ false
below_itself t = rw (cmp_itself t) refl

-- in a list in order, no name comes before that of the first resource
names_after : (r : Resource) (rs : List Resource) → IsTrue (stands_first (key_of r) rs)
    → IsTrue (none_before r.label rs)
names_after r [] first = refl
names_after r (s ∷ ss) first =
    let parts = and_parts (key_below (key_of r) (key_of s)) (stands_first (key_of r) ss) first in
    and_from _ _ (not_before r s parts.0) (names_after r ss parts.1)
  where
    not_before : (r s : Resource) → IsTrue (key_below (key_of r) (key_of s)) → not (text_below s.label r.label) ≡ true
    not_before r s below = elim (cases_Bool (text_below s.label r.label)) [
      | inl before ↦ absurd (elim (cases_below (key_of r) (key_of s) below) [
        | inl less ↦ false≢true (sym (ap (λ (b : Bool). b) (below_itself r.label)) ∙ below_trans r.label s.label r.label (below_from_cmp r.label s.label less) before)
        | inr same ↦ false≢true (sym (below_itself s.label) ∙ subst (λ (t : Text). IsTrue (text_below s.label t)) same.0 before)
      ])
      | inr after ↦ ap not after
    ]

pub none_before_first : (r s : Resource) (ss : List Resource) → IsTrue (is_in_order (s ∷ ss)) → r.label ≡ s.label
    → IsTrue (none_before r.label (s ∷ ss))
none_before_first r s ss ordered same =
    let parts = and_parts (stands_first (key_of s) ss) (is_in_order ss) ordered in
    subst (λ (t : Text). IsTrue (none_before t (s ∷ ss))) (sym same) (and_from _ _ (ap not (below_itself s.label)) (names_after s ss parts.0))

-- no name after a greater one is equal to this one
pub none_from : (clash : Clash) (r s : Resource) (ss : List Resource) → IsTrue (is_in_order (s ∷ ss))
    → IsTrue (text_below r.label s.label) → clashes_with_some clash r (s ∷ ss) ≡ false
none_from clash r s ss ordered below =
    let parts = and_parts (stands_first (key_of s) ss) (is_in_order ss) ordered in
    rw (above_text r.label s.label below) (none_after ss parts.0)
  where
    above_text : (a b : Text) → IsTrue (text_below a b) → same_text a b ≡ false
    above_text a b below = below_other a b below

    none_after : (ss : List Resource) → IsTrue (stands_first (key_of s) ss) → clashes_with_some clash r ss ≡ false
    none_after [] first = refl
    none_after (t ∷ ts) first =
        let parts = and_parts (key_below (key_of s) (key_of t)) (stands_first (key_of s) ts) first in
        let later : IsTrue (text_below r.label t.label) = elim (cases_below (key_of s) (key_of t) parts.0) [
          | inl less ↦ below_trans r.label s.label t.label below (below_from_cmp s.label t.label less)
          | inr same ↦ subst (λ (x : Text). IsTrue (text_below r.label x)) same.0 below
        ] in
        rw (below_other r.label t.label later) (none_after ts parts.1)

-- the resource that is read is the first of the remaining ones
pub next_of : {A : Type 0} (xs : List A) (i : ℕ) (x : A) → i < length xs → x ≡ get_or xs i x
    → drop i xs ≡ x ∷ drop (i + 1) xs
next_of {A} xs i x in_range read =
    let split : drop i xs ≡ get_or xs i x ∷ drop (i + 1) xs = rw (add-one) (drop-cons xs i x in_range) in
    split ∙ ap (λ (y : A). y ∷ drop (i + 1) xs) (sym read)

-- what is true while the walk goes through the other resources
pub record SoFar (clash : Clash) (r : Resource) (others left : List Resource) : Type 0 where
  pub same : clashes_with_some clash r left ≡ clashes_with_some clash r others
  pub in_order : IsTrue (is_in_order left)
  pub not_before : IsTrue (none_before r.label left)

module _ (clash : Clash) (r : Resource) (others : List Resource) (i : ℕ) (s : Resource) (in_range : i < length others) (read : s ≡ get_or others i s)
    (same : clashes_with_some clash r (drop i others) ≡ clashes_with_some clash r others) (ordered : IsTrue (is_in_order (drop i others)))
    (not_before : IsTrue (none_before r.label (drop i others))) where
  here : clashes_with_some clash r (s ∷ drop (i + 1) others) ≡ clashes_with_some clash r others
  here = ap (clashes_with_some clash r) (sym (next_of others i s in_range read)) ∙ same

  order_here : IsTrue (is_in_order (s ∷ drop (i + 1) others))
  order_here = subst (λ (l : List Resource). IsTrue (is_in_order l)) (next_of others i s in_range read) ordered

  names_here : IsTrue (none_before r.label (s ∷ drop (i + 1) others))
  names_here = subst (λ (l : List Resource). IsTrue (none_before r.label l)) (next_of others i s in_range read) not_before

  -- after another name, this one does not occur any more
  pub past_name : same_text s.label r.label ≡ false → false ≡ clashes_with_some clash r others
  past_name other =
      let after = and_parts (not (text_below s.label r.label)) (none_before r.label (drop (i + 1) others)) names_here in
      let below : IsTrue (text_below r.label s.label) = elim (cases_cmp r.label s.label) [
        | inl less ↦ below_from_cmp r.label s.label less
        | inr (inl equal) ↦ absurd (false≢true (sym other ∙ test_from_same s.label r.label (sym (same_from_cmp r.label s.label equal))))
        | inr (inr greater) ↦ absurd (true≢false (sym (above_from_cmp r.label s.label greater) ∙ not-true (text_below s.label r.label) after.0))
      ] in
      sym (sym here ∙ none_from clash r s (drop (i + 1) others) order_here below)

  pub found_here : same_text s.label r.label ≡ true → clash_in clash r.value s.value ≡ true
      → true ≡ clashes_with_some clash r others
  found_here named clashes =
      let test : test_of clash r s ≡ true = and_from _ _ (test_from_same r.label s.label (sym (same_from_test s.label r.label named))) clashes in
      sym (sym here ∙ rw test refl)

  pub past_one : clash_in clash r.value s.value ≡ false → SoFar clash r others (drop (i + 1) others)
  past_one none =
      let test : test_of clash r s ≡ false = rw none (and_none (same_text r.label s.label)) in
      record {
        same = sym (rw test refl) ∙ here;
        in_order = (and_parts (stands_first (key_of s) (drop (i + 1) others)) (is_in_order (drop (i + 1) others)) order_here).1;
        not_before = (and_parts (not (text_below s.label r.label)) (none_before r.label (drop (i + 1) others)) names_here).1;
      }
    where
      and_none : (x : Bool) → (x && false) ≡ false
      and_none true = refl
      and_none false = refl

-- ---- the steps of a walk through both

pub record Walked (clash : Clash) (a b whole other : List Resource) : Type 0 where
  pub same : have_clash clash a b ≡ have_clash clash whole other
  pub left : IsTrue (is_in_order a)
  pub right : IsTrue (is_in_order b)

tail_in_order : (a : List Resource) → IsTrue (is_in_order a) → IsTrue (is_in_order (tail a))
tail_in_order [] ordered = refl
tail_in_order (r ∷ rs) ordered = rw (tail_is r rs) (and_parts (stands_first (key_of r) rs) (is_in_order rs) ordered).1

some_less : (o : Ordering) → Some o ≡ Some Less → o ≡ Less
some_less o e = cc

some_greater : (o : Ordering) → Some o ≡ Some Greater → o ≡ Greater
some_greater o e = cc

some_equal : (o : Ordering) → Some o ≡ Some Equal → o ≡ Equal
some_equal o e = cc

past_left : (clash : Clash) (a b : List Resource) → names_cmp a b ≡ Some Less → IsTrue (is_in_order b)
    → have_clash clash (tail a) b ≡ have_clash clash a b
past_left clash [] b names ordered = refl
past_left clash (r ∷ rs) [] names ordered = cc
past_left clash (r ∷ rs) (s ∷ ss) names ordered =
    let none = none_from clash r s ss ordered (below_from_cmp r.label s.label (some_less _ names)) in
    let whole : have_clash clash (r ∷ rs) (s ∷ ss) ≡ have_clash clash rs (s ∷ ss) = ap (λ (x : Bool). x || have_clash clash rs (s ∷ ss)) none in
    ap (λ (l : List Resource). have_clash clash l (s ∷ ss)) (tail_is r rs) ∙ sym whole

-- a name that comes before all names of a list clashes with none of them
above_all : (clash : Clash) (s : Resource) (ss a : List Resource)
    → IsTrue (list_all (λ r. text_below s.label r.label) a) → have_clash clash a ss ≡ have_clash clash a (s ∷ ss)
above_all clash s ss [] below = refl
above_all clash s ss (r ∷ rs) below =
    let parts = and_parts (text_below s.label r.label) (list_all (λ r. text_below s.label r.label) rs) below in
    let none : test_of clash r s ≡ false = ap (λ (x : Bool). x && clash_in clash r.value s.value) (above_other s.label r.label parts.0) in
    let first : clashes_with_some clash r (s ∷ ss) ≡ clashes_with_some clash r ss = ap (λ (x : Bool). x || clashes_with_some clash r ss) none in
    λ i. sym first i || above_all clash s ss rs parts.1 i

all_above : (s r : Resource) (rs : List Resource) → IsTrue (text_below s.label r.label)
    → IsTrue (stands_first (key_of r) rs) → IsTrue (list_all (λ t. text_below s.label t.label) rs)
all_above s r [] below first = refl
all_above s r (t ∷ ts) below first =
    let parts = and_parts (key_below (key_of r) (key_of t)) (stands_first (key_of r) ts) first in
    let later : IsTrue (text_below s.label t.label) = elim (cases_below (key_of r) (key_of t) parts.0) [
      | inl less ↦ below_trans s.label r.label t.label below (below_from_cmp r.label t.label less)
      | inr same ↦ subst (λ (x : Text). IsTrue (text_below s.label x)) same.0 below
    ] in
    and_from _ _ later (all_above s r ts below parts.1)

past_right : (clash : Clash) (a b : List Resource) → names_cmp a b ≡ Some Greater → IsTrue (is_in_order a)
    → have_clash clash a (tail b) ≡ have_clash clash a b
past_right clash [] b names ordered = refl
past_right clash (r ∷ rs) [] names ordered = refl
past_right clash (r ∷ rs) (s ∷ ss) names ordered =
    let below = above_from_cmp r.label s.label (some_greater _ names) in
    let first = (and_parts (stands_first (key_of r) rs) (is_in_order rs) ordered).0 in
    ap (λ (l : List Resource). have_clash clash (r ∷ rs) l) (tail_is s ss) ∙ above_all clash s ss (r ∷ rs) (and_from _ _ below (all_above s r rs below first))

past_both : (clash : Clash) (a b : List Resource) (y : Resource) → names_cmp a b ≡ Some Equal → y ≡ get_or a 0 y
    → clashes_with_some clash y b ≡ false → have_clash clash (tail a) b ≡ have_clash clash a b
past_both clash [] b y names is none = refl
past_both clash (r ∷ rs) b y names is none =
    let first : clashes_with_some clash r b ≡ false = ap (λ (t : Resource). clashes_with_some clash t b) (sym is) ∙ none in
    let whole : have_clash clash (r ∷ rs) b ≡ have_clash clash rs b = ap (λ (x : Bool). x || have_clash clash rs b) first in
    ap (λ (l : List Resource). have_clash clash l b) (tail_is r rs) ∙ sym whole

module _ (clash : Clash) (a b whole other : List Resource) (known : Walked clash a b whole other) where
  pub walked_left : names_cmp a b ≡ Some Less → Walked clash (tail a) b whole other
  walked_left names = record { same = past_left clash a b names known.right ∙ known.same; left = tail_in_order a known.left; right = known.right }

  pub walked_right : names_cmp a b ≡ Some Greater → Walked clash a (tail b) whole other
  walked_right names = record { same = past_right clash a b names known.left ∙ known.same; left = known.left; right = tail_in_order b known.right }

  pub walked_both : (y : Resource) → names_cmp a b ≡ Some Equal → y ≡ get_or a 0 y → clashes_with_some clash y b ≡ false
      → Walked clash (tail a) b whole other
  walked_both y names is none = record { same = past_both clash a b y names is none ∙ known.same; left = tail_in_order a known.left; right = known.right }

  pub clash_here : (y : Resource) → names_cmp a b ≡ Some Equal → y ≡ get_or a 0 y → clashes_with_some clash y b ≡ true
      → true ≡ have_clash clash whole other
  clash_here y names is clashes = sym (sym known.same ∙ first a names is)
    where
      first : (a : List Resource) → names_cmp a b ≡ Some Equal → y ≡ get_or a 0 y → have_clash clash a b ≡ true
      first [] names is = cc
      first (r ∷ rs) names is =
          let here : clashes_with_some clash r b ≡ true = ap (λ (t : Resource). clashes_with_some clash t b) (sym is) ∙ clashes in
          rw here refl

  pub none_left : names_cmp a b ≡ None → false ≡ have_clash clash whole other
  none_left names = sym (sym known.same ∙ nothing a b names)
    where
      empty_clash : (a : List Resource) → have_clash clash a [] ≡ false
      empty_clash [] = refl
      empty_clash (r ∷ rs) = empty_clash rs

      nothing : (a b : List Resource) → names_cmp a b ≡ None → have_clash clash a b ≡ false
      nothing [] b names = refl
      nothing (r ∷ rs) [] names = empty_clash (r ∷ rs)
      nothing (r ∷ rs) (s ∷ ss) names = cc

pub names_first : (a b : List Resource) (y : Resource) → names_cmp a b ≡ Some Equal → y ≡ get_or a 0 y
    → IsTrue (is_in_order b) → IsTrue (none_before y.label b)
names_first [] b y names is ordered = cc
names_first (r ∷ rs) [] y names is ordered = refl
names_first (r ∷ rs) (s ∷ ss) y names is ordered =
    none_before_first y s ss ordered (ap (λ (t : Resource). t.label) is ∙ same_from_cmp r.label s.label (some_equal _ names))
