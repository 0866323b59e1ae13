-- Both kinds of clashes in one test: if it finds none, there is none of either kind.
use Rattle.std.specs.Prelude.{◌≡◌, ◌&&◌, ◌||◌, Bool, true, false, not, List, [], ◌∷◌, Some, None}
use Rattle.std.specs.List.{list_any}
use Rattle.std.proofs.Common.{refl, sym, ap, ◌∙◌, inl, inr, cond}
use Rattle.std.proofs.lemmas.Bool.{true≢false, cases_Bool}
use Rattle.drf_amount.specs.declared.algebra.AlgebraFault.{AlgebraFault}
use Rattle.drf_amount.specs.declared.algebra.AlgebraFault.TheVariants as fault
use Rattle.drf_role.specs.Text.{same_text}
use Rattle.drf_bundle.specs.Value.{clash_in, is_same_kind, share_members}
use Rattle.drf_bundle.specs.Bundle.{clashes_with_some, have_clash, is_too_large, refusal}
use Rattle.drf_bundle.specs.Sides.{clash_fault}
use Rattle.drf_bundle.specs.declared.resource.Resource.{Resource}
use Rattle.drf_bundle.specs.declared.value.Clash.{Clash}
use Rattle.drf_bundle.specs.declared.value.Clash.TheVariants.{Kinds, Members, Either}
use Rattle.drf_bundle.specs.declared.value.Value.{Value}
use Rattle.drf_bundle.proofs.MergeLemmas.{test_of}

none_of_test : (p q : Resource → Bool) → ((r : Resource) → p r ≡ false → q r ≡ false) → (rs : List Resource)
    → list_any p rs ≡ false → list_any q rs ≡ false
none_of_test p q each [] none = refl
none_of_test p q each (r ∷ rs) none = elim (cases_Bool (p r)) [
  | inl some ↦ absurd (true≢false (sym (ap (λ (x : Bool). x || list_any p rs) some) ∙ none))
  | inr here ↦
      let later : list_any p rs ≡ false = sym (ap (λ (x : Bool). x || list_any p rs) here) ∙ none in
      rw (each r here) (none_of_test p q each rs later)
]

-- if there is no clash of either kind, there is none of this kind
none_of : (clash : Clash) → ((v w : Value) → clash_in Either v w ≡ false → clash_in clash v w ≡ false) → (a b : List Resource)
    → have_clash Either a b ≡ false → have_clash clash a b ≡ false
none_of clash each a b none =
    none_of_test (λ r. clashes_with_some Either r b) (λ r. clashes_with_some clash r b)
    (λ r. none_of_test (test_of Either r) (test_of clash r) (λ s. of_test (same_text r.label s.label) (clash_in Either r.value s.value) (clash_in clash r.value s.value) (each r.value s.value)) b) a none
  where
    of_test : (x y z : Bool) → (y ≡ false → z ≡ false) → (x && y) ≡ false → (x && z) ≡ false
    of_test true y z then none = then none
    of_test false y z then none = refl

pub no_kinds : (a b : List Resource) → have_clash Either a b ≡ false → have_clash Kinds a b ≡ false
no_kinds a b none = none_of Kinds (λ v w. first (not (is_same_kind v w)) (share_members v w)) a b none
  where
    first : (x y : Bool) → (x || y) ≡ false → x ≡ false
    first true y none = none
    first false y none = refl

pub no_members : (a b : List Resource) → have_clash Either a b ≡ false → have_clash Members a b ≡ false
no_members a b none = none_of Members (λ v w. second (not (is_same_kind v w)) (share_members v w)) a b none
  where
    second : (x y : Bool) → (x || y) ≡ false → y ≡ false
    second true y none = absurd (true≢false none)
    second false y none = none

-- ---- the error of a clash comes before all others

pub fault_first : (a b : List Resource) (f : AlgebraFault) → clash_fault a b ≡ Some f → Some f ≡ refusal a b
fault_first a b f is = by (have_clash Kinds a b) (have_clash Members a b) is
  where
    by : (x y : Bool) → cond x (Some fault.Kind) (cond y (Some fault.Overlap) None) ≡ Some f
        → Some f ≡ cond x (Some fault.Kind) (cond y (Some fault.Overlap) (cond (is_too_large a b) (Some fault.TooLarge) None))
    by true y is = sym is
    by false true is = sym is
    by false false is = cc

pub fault_none : (a b : List Resource) (large : Bool) → clash_fault a b ≡ None → large ≡ is_too_large a b
    → cond large (Some fault.TooLarge) None ≡ refusal a b
fault_none a b large none is = by (have_clash Kinds a b) (have_clash Members a b) none
  where
    by : (x y : Bool) → cond x (Some fault.Kind) (cond y (Some fault.Overlap) None) ≡ None
        → cond large (Some fault.TooLarge) None ≡ cond x (Some fault.Kind) (cond y (Some fault.Overlap) (cond (is_too_large a b) (Some fault.TooLarge) None))
    by true y none = cc
    by false true none = cc
    by false false none = ap (λ (l : Bool). cond l (Some fault.TooLarge) None) is
