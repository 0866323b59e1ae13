-- A search through rows.
use Rattle.std.proofs.Common.{◌≡◌, ℕ, ◌+◌, ◌<◌, ◌≤◌, Bool, true, false, ◌||◌, List, Option, Some, None, is_some, drop, get_or, length, refl, sym, ap, ◌∙◌}
use Rattle.std.specs.Prelude.{if◌then◌else◌}
use Rattle.std.specs.List.{list_any}
use Rattle.std.proofs.lemmas.Bool.{false≢true}
use Rattle.std.proofs.lemmas.List.{at_drop_more, drop_all}

module _ {X : Type 0} (test : X → Bool) (xs : List X) (i : ℕ) (so_far : list_any test (drop i xs) ≡ list_any test xs) where
  module _ (x : X) (inside : i < length xs) (is : x ≡ get_or xs i x) where
    at : list_any test xs ≡ (test x || list_any test (drop (i + 1) xs))
    at = sym so_far ∙ at_drop_more (list_any test) xs i x inside ∙ ap (λ y. test y || list_any test (drop (i + 1) xs)) (sym is)

    -- the element passes the test
    pub any_found : test x ≡ true → list_any test xs ≡ true
    any_found here = at ∙ ap (λ b. b || list_any test (drop (i + 1) xs)) here

    -- it does not
    pub any_passed : test x ≡ false → list_any test (drop (i + 1) xs) ≡ list_any test xs
    any_passed past = sym (at ∙ ap (λ b. b || list_any test (drop (i + 1) xs)) past)

  -- no element passes it
  pub any_over : length xs ≤ i → list_any test xs ≡ false
  any_over past = sym so_far ∙ ap (list_any test) (drop_all i xs past)

-- ---- the selection in a row that passes the test, or nothing

module _ {Y : Type 0} (y : Y) where
  -- if something was found, the test holds
  pub picked_yes : (test : Bool) (found : Option Y) → found ≡ (if test then Some y else None) → is_some found ≡ true → test ≡ true
  picked_yes true found is some = refl
  picked_yes false found is some = absurd (false≢true (sym (ap is_some is) ∙ some))

  pub picked_no : (test : Bool) (found : Option Y) → found ≡ (if test then Some y else None) → is_some found ≡ false → test ≡ false
  picked_no true found is none = absurd (false≢true (sym none ∙ ap is_some is))
  picked_no false found is none = refl

  -- the selection if the test holds, and if it does not
  pub picked_if : (test : Bool) → test ≡ true → Some y ≡ (if test then Some y else None)
  picked_if test is = ap (λ (b : Bool). if b then Some y else None) (sym is)

  pub none_if : (test : Bool) → test ≡ false → None ≡ (if test then Some y else None)
  none_if test is = ap (λ (b : Bool). if b then Some y else None) (sym is)
