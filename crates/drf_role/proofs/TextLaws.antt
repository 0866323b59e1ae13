-- Lemmas about `specs/TextLaws.antt`.
use Rattle.std.specs.Prelude.{◌≡◌, ◌≢◌, ◌⊎◌, ℕ, false, List, IsTrue}
use Rattle.std.specs.Cmp.Lexicographic.{slice_cmp, nat_list_cmp_total}
use Rattle.std.specs.Ordering.{nat_cmp, is_lt, ordering_reverse}
use Rattle.std.proofs.Common.{Greater, sym, ap, ◌∙◌, subst, inl, inr}
use Rattle.std.proofs.lemmas.Bool.{false≢true, cases_Bool, false_from_ne_true}
use Rattle.drf_role.specs.Text.{same_text, text_below}
use Rattle.drf_role.specs.TextLaws.{same_from_test, test_from_same, cmp_below, cmp_itself}

pub test_from_other : (a b : List ℕ) → a ≢ b → same_text a b ≡ false
test_from_other a b other = false_from_ne_true (same_text a b) (λ same. other (same_from_test a b same))

-- the two texts are equal, or they are not
pub cases_same : (a b : List ℕ) → (IsTrue (same_text a b) × (a ≡ b)) ⊎ ((same_text a b ≡ false) × (a ≢ b))
cases_same a b = elim (cases_Bool (same_text a b)) [
  | inl same ↦ inl (same, same_from_test a b same)
  | inr other ↦ inr (other, λ e. false≢true (rw (test_from_same a b e) at (sym other)))
]

pub cmp_above : (a b : List ℕ) → IsTrue (text_below a b) → slice_cmp nat_cmp b a ≡ Greater
cmp_above a b below = nat_list_cmp_total.antisymm b a ∙ ap ordering_reverse (cmp_below a b below)

-- a text that comes before another is not equal to it
pub below_other : (a b : List ℕ) → IsTrue (text_below a b) → same_text a b ≡ false
below_other a b below = test_from_other a b (λ e. false≢true (ap is_lt (sym (cmp_itself b)) ∙ subst (λ (t : List ℕ). IsTrue (text_below t b)) e below))

pub above_other : (a b : List ℕ) → IsTrue (text_below a b) → same_text b a ≡ false
above_other a b below = test_from_other b a (λ e. false≢true (ap is_lt (sym (cmp_itself b)) ∙ subst (λ (t : List ℕ). IsTrue (text_below t b)) (sym e) below))
