-- Lists of the numbers of the things that pass tests, after a change of the things.
use Rattle.std.specs.Prelude.{◌≡◌, ℕ, ◌==◌, Bool, true, false, not, List, [], ◌∷◌, ◌++◌, map, filter, cond}
use Rattle.std.specs.List.{list_any}
use Rattle.std.proofs.Common.{refl, sym, ap, ◌∙◌, inl, inr}
use Rattle.std.proofs.lemmas.Bool.{cases_Bool, eq-eqb, false≢true}
use Rattle.std.proofs.lemmas.List.{map-append}
use Rattle.std.proofs.lemmas.List.Elements.{filter-append}
use Rattle.drf_row_laws.proofs.ReleaseLaws.{filter-out}
use Rattle.drf_bundle.proofs.ListLaws.{filter-swap, filter_only, each_append}
use Rattle.drf_holdings.specs.Listed.{IsListed}
use Rattle.drf_holdings.specs.Rising.{AreOthers}

module _ {X : Type 0} (number : X → ℕ) where
  abbrev pub is_other : ℕ → X → Bool
  is_other n x = not (number x == n)

  pub filter-map : (n : ℕ) (xs : List X) → filter (λ m. not (m == n)) (map number xs) ≡ map number (filter (is_other n) xs)
  filter-map n [] = refl
  filter-map n (x ∷ xs) = by (number x == n) (filter-map n xs)
    where
      by : (b : Bool) → filter (λ m. not (m == n)) (map number xs) ≡ map number (filter (is_other n) xs)
          → cond (not b) (number x ∷ filter (λ m. not (m == n)) (map number xs)) (filter (λ m. not (m == n)) (map number xs))
          ≡ map number (cond (not b) (x ∷ filter (is_other n) xs) (filter (is_other n) xs))
      by true more = more
      by false more = ap (λ (ms : List ℕ). number x ∷ ms) more

  none_listed : (p : X → Bool) (n : ℕ) (xs : List X) → AreOthers number n xs → list_any (λ m. m == n) (map number (filter p xs)) ≡ false
  none_listed p n [] others = refl
  none_listed p n (x ∷ xs) others = elim (cases_Bool (p x)) [
    | inl here ↦ rw (here, others.0) (none_listed p n xs others.1)
    | inr past ↦ rw past (none_listed p n xs others.1)
  ]

  -- a number that no thing has is not listed
  pub listed_none : (p : X → Bool) (n : ℕ) (xs : List X) → AreOthers number n xs
      → list_any (λ m. m == n) (map number (filter p xs)) ≡ true → false ≡ true
  listed_none p n xs others any = sym (none_listed p n xs others) ∙ any

  module _ (before after : List X) (x : X)
      (past : AreOthers number (number x) before) (later : AreOthers number (number x) after) where
    -- a listed thing passes the test
    pub listed_passes : (p : X → Bool) → list_any (λ m. m == number x) (map number (filter p (before ++ x ∷ after))) ≡ true → p x ≡ true
    listed_passes p any = elim (cases_Bool (p x)) [
      | inl here ↦ here
      | inr other ↦
          let less : list_any (λ m. m == number x) (map number (filter p (before ++ after))) ≡ true =
          ap (λ (ys : List X). list_any (λ m. m == number x) (map number ys)) (sym (filter-out p before after x other)) ∙ any in
          absurd (false≢true (listed_none p (number x) (before ++ after)
          (each_append (λ y. (number y == number x) ≡ false) before after past later) less))
    ]

    -- a removed thing is no longer listed
    pub listed_out : {K : Type 0} (test : K → X → Bool) (old new : K → List ℕ)
        → IsListed test number old (before ++ x ∷ after)
        → ((k : K) → new k ≡ cond (test k x) (filter (λ m. not (m == number x)) (old k)) (old k))
        → IsListed test number new (before ++ after)
    listed_out test old new listed changed k = elim (cases_Bool (test k x)) [
      | inl here ↦
          changed k
          ∙ ap (λ (b : Bool). cond b (filter (λ m. not (m == number x)) (old k)) (old k)) here
          ∙ ap (filter (λ m. not (m == number x))) (listed k)
          ∙ filter-map (number x) (filter (test k) (before ++ x ∷ after))
          ∙ ap (map number) (filter-swap (is_other (number x)) (test k) (before ++ x ∷ after))
          ∙ ap (λ (ys : List X). map number (filter (test k) ys))
          (filter_only (λ y. number y == number x) before after x past (eq-eqb (number x) (number x) refl) later)
      | inr other ↦
          changed k
          ∙ ap (λ (b : Bool). cond b (filter (λ m. not (m == number x)) (old k)) (old k)) other
          ∙ listed k
          ∙ ap (map number) (filter-out (test k) before after x other)
    ]

  -- an added thing is listed last
  pub listed_in : {K : Type 0} (test : K → X → Bool) (old new : K → List ℕ) (xs : List X) (x : X)
      → IsListed test number old xs
      → ((k : K) → new k ≡ old k ++ cond (test k x) (number x ∷ []) [])
      → IsListed test number new (xs ++ x ∷ [])
  listed_in test old new xs x listed changed k =
      changed k
      ∙ ap (λ (ns : List ℕ). ns ++ cond (test k x) (number x ∷ []) []) (listed k)
      ∙ ap (λ (ns : List ℕ). map number (filter (test k) xs) ++ ns) (by (test k x))
      ∙ sym (map-append number (filter (test k) xs) (filter (test k) (x ∷ [])))
      ∙ ap (map number) (sym (filter-append (test k) xs (x ∷ [])))
    where
      by : (b : Bool) → cond b (number x ∷ []) [] ≡ map number (cond b (x ∷ []) [])
      by true = refl
      by false = refl
