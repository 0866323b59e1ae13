-- Properties of comparing texts byte by byte.
use Rattle.std.specs.Prelude.{◌≡◌, ◌⊎◌, ℕ, List, IsTrue}
use Rattle.std.specs.Cmp.Lexicographic.{slice_cmp, bytes_decides, nat_list_cmp_total, texts_ties}
use Rattle.std.specs.Ordering.{nat_cmp, is_lt, is_eq, ordering_reverse}
use Rattle.std.proofs.Common.{Ordering, Less, Equal, Greater, refl, ap, ◌∙◌, inl, inr}
use Rattle.std.proofs.lemmas.Bool.{false≢true}
use Rattle.std.proofs.lemmas.Cmp.{tied_itself}
use Rattle.drf_role.specs.Text.{same_text, text_below}

pub same_from_test : (a b : List ℕ) → IsTrue (same_text a b) → a ≡ b
same_from_test a b same = (bytes_decides a b).0 same

pub test_from_same : (a b : List ℕ) → a ≡ b → IsTrue (same_text a b)
test_from_same a b same = (bytes_decides a b).1 same

pub same_itself : (a : List ℕ) → IsTrue (same_text a a)
same_itself a = test_from_same a a refl

pub less_from_test : (o : Ordering) → IsTrue (is_lt o) → o ≡ Less
less_from_test Less h = refl
less_from_test Equal h = absurd (false≢true h)
less_from_test Greater h = absurd (false≢true h)

pub cmp_below : (a b : List ℕ) → IsTrue (text_below a b) → slice_cmp nat_cmp a b ≡ Less
cmp_below a b below = less_from_test (slice_cmp nat_cmp a b) below

pub cmp_itself : (a : List ℕ) → slice_cmp nat_cmp a a ≡ Equal
cmp_itself a = tied_itself nat_list_cmp_total a

pub below_from_cmp : (a b : List ℕ) → slice_cmp nat_cmp a b ≡ Less → IsTrue (text_below a b)
below_from_cmp a b less = ap is_lt less

pub above_from_cmp : (a b : List ℕ) → slice_cmp nat_cmp a b ≡ Greater → IsTrue (text_below b a)
above_from_cmp a b greater = ap is_lt (nat_list_cmp_total.antisymm b a ∙ ap ordering_reverse greater)

pub same_from_cmp : (a b : List ℕ) → slice_cmp nat_cmp a b ≡ Equal → a ≡ b
same_from_cmp a b equal = same_from_test a b (texts_ties a b ∙ ap is_eq equal)

-- the three results of a comparison
pub cases_cmp : (a b : List ℕ) → (slice_cmp nat_cmp a b ≡ Less) ⊎ ((slice_cmp nat_cmp a b ≡ Equal) ⊎ (slice_cmp nat_cmp a b ≡ Greater))
cases_cmp a b = of (slice_cmp nat_cmp a b)
  where
    of : (o : Ordering) → (o ≡ Less) ⊎ ((o ≡ Equal) ⊎ (o ≡ Greater))
    of Less = inl refl
    of Equal = inr (inl refl)
    of Greater = inr (inr refl)

pub below_trans : (a b c : List ℕ) → IsTrue (text_below a b) → IsTrue (text_below b c) → IsTrue (text_below a c)
below_trans a b c first second = below_from_cmp a c (nat_list_cmp_total.trans a b c (cmp_below a b first) (cmp_below b c second))
