-- The first element that passes a test is the head, or comes after elements that do not pass it.
use Rattle.std.specs.Prelude.{◌≡◌, ℕ, suc, ◌+◌, Bool, true, false, List, [], ◌∷◌, ◌++◌, length, Option, Some, None, if◌then◌else◌, take, drop}
use Rattle.std.specs.List.{list_any, position, position_from}
use Rattle.std.specs.Option.{option_map, option_map_or}
use Rattle.std.proofs.Common.{refl, sym, ap, ◌∙◌, cond, add-one}
use Rattle.std.proofs.lemmas.Bool.{or_parts}
use Rattle.std.proofs.lemmas.Iterator.Adapters.{position_from-zero}
use Rattle.std.proofs.lemmas.List.{drop_at, take_at}
use Rattle.drf_role.specs.Path.{Path}
use Rattle.drf_explain.specs.declared.finding.Finding.{Finding}
use Rattle.drf_why.specs.Pick.{earlier_at, earlier_on, is_of_client, own_at, own_on}

-- a search whose indexes begin one higher
searched_later : {X : Type 0} (test : X → Bool) (i : ℕ) (xs : List X) → position_from test (i + 1) xs ≡ option_map suc (position_from test i xs)
searched_later test i [] = refl
searched_later test i (x ∷ xs) = by (test x) (searched_later test (i + 1) xs)
  where
    by : (found : Bool) → position_from test (i + 1 + 1) xs ≡ option_map suc (position_from test (i + 1) xs)
        → cond found (Some (i + 1)) (position_from test (i + 1 + 1) xs)
        ≡ option_map suc (cond found (Some i) (position_from test (i + 1) xs))
    by true later = ap Some (add-one i)
    by false later = later

module _ {X : Type 0} (test : X → Bool) where
  pub position-cons : (x : X) (xs : List X) → position test (x ∷ xs) ≡ cond (test x) (Some 0) (option_map suc (position test xs))
  position-cons x xs =
      position_from-zero test (x ∷ xs)
      ∙ ap (cond (test x) (Some 0)) (searched_later test 0 xs ∙ ap (option_map suc) (sym (position_from-zero test xs)))

  pub position-behind : (prefix : List X) (x : X) (back : List X) → list_any test prefix ≡ false → test x ≡ true
      → position test (prefix ++ x ∷ back) ≡ Some (length prefix)
  position-behind [] x back none its = position-cons x back ∙ ap (λ b. cond b (Some 0) (option_map suc (position test back))) its
  position-behind (f ∷ prefix) x back none its =
      let parts = or_parts (test f) (list_any test prefix) none in
      position-cons f (prefix ++ x ∷ back)
      ∙ (λ i. cond (parts.0 i) (Some 0) (option_map suc (position-behind prefix x back parts.1 its i)))

  pub position-none : (xs : List X) → list_any test xs ≡ false → position test xs ≡ None
  position-none [] none = refl
  position-none (x ∷ xs) none =
      let parts = or_parts (test x) (list_any test xs) none in
      position-cons x xs ∙ (λ i. cond (parts.0 i) (Some 0) (option_map suc (position-none xs parts.1 i)))

-- the first finding about a client is the head, or is in the tail
pub own-cons : (path : Path) (finding : Finding) (findings : List Finding)
    → own_on path (finding ∷ findings) ≡ (if is_of_client path finding then finding ∷ [] else own_on path findings)
own-cons path finding findings =
    ap (λ found. option_map_or (λ place. take 1 (drop place (finding ∷ findings))) found []) (position-cons (is_of_client path) finding findings)
    ∙ by (is_of_client path finding) (position (is_of_client path) findings)
  where
    by : (its : Bool) (found : Option ℕ)
        → option_map_or (λ place. take 1 (drop place (finding ∷ findings))) (cond its (Some 0) (option_map suc found)) []
        ≡ cond its (finding ∷ []) (option_map_or (λ place. take 1 (drop place findings)) found [])
    by true found = refl
    by false None = refl
    by false (Some place) = refl

module _ (path : Path) where
  module _ (prefix : List Finding) (f : Finding) (back : List Finding) (none : list_any (is_of_client path) prefix ≡ false) (its : is_of_client path f ≡ true) where
    pub own-behind : own_on path (prefix ++ f ∷ back) ≡ f ∷ []
    own-behind =
        ap (own_at (prefix ++ f ∷ back)) (position-behind (is_of_client path) prefix f back none its)
        ∙ ap (take 1) (drop_at prefix (f ∷ back) (length prefix) refl)

    pub earlier-behind : earlier_on path (prefix ++ f ∷ back) ≡ prefix
    earlier-behind =
        ap (earlier_at (prefix ++ f ∷ back)) (position-behind (is_of_client path) prefix f back none its)
        ∙ take_at prefix (f ∷ back) (length prefix) refl

  pub earlier-none : (findings : List Finding) → list_any (is_of_client path) findings ≡ false → earlier_on path findings ≡ []
  earlier-none findings none = ap (earlier_at findings) (position-none (is_of_client path) findings none)
