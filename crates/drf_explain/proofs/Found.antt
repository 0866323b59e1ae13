-- Loops over lists that find or add elements.
use Rattle.std.specs.Prelude.{◌≡◌, ℕ, ◌+◌, ◌<◌, ◌≤◌, Bool, List, [], ◌∷◌, ◌++◌, length, map, filter, fold, drop, get_or, Option, Some, None}
use Rattle.std.specs.List.{flat_map, reduce}
use Rattle.std.proofs.Common.{refl, sym, ap, ◌∙◌, inl, inr, append_assoc, append-nil}
use Rattle.std.proofs.lemmas.Bool.{cases_Bool}
use Rattle.std.proofs.lemmas.List.{at_drop_more, drop_all}
use Rattle.drf_explain.specs.Gates.{joined, reduced}

-- ---- a fold, step by step

module _ {A B : Type 0} (step : B → A → B) (whole : B) (xs : List A) (i : ℕ) where
  pub fold_more : (state next : B) (x : A) → i < length xs → x ≡ get_or xs i x → next ≡ step state x
      → fold step state (drop i xs) ≡ whole → fold step next (drop (i + 1) xs) ≡ whole
  fold_more state next x inside is stepped so_far =
      ap (λ s. fold step s (drop (i + 1) xs)) stepped
      ∙ ap (λ y. fold step state (y ∷ drop (i + 1) xs)) is
      ∙ sym (at_drop_more (fold step state) xs i x inside)
      ∙ so_far

  pub fold_over : (state : B) → length xs ≤ i → fold step state (drop i xs) ≡ whole → state ≡ whole
  fold_over state past so_far = sym (ap (fold step state) (drop_all i xs past)) ∙ so_far

-- ---- what is added for each element

module _ {A B : Type 0} (f : A → List B) (whole : List B) (xs : List A) (i : ℕ) where
  pub added_more : (old new : List B) (x : A) → i < length xs → x ≡ get_or xs i x → new ≡ old ++ f x
      → old ++ flat_map f (drop i xs) ≡ whole → new ++ flat_map f (drop (i + 1) xs) ≡ whole
  added_more old new x inside is added so_far =
      ap (λ ys. ys ++ flat_map f (drop (i + 1) xs)) added
      ∙ append_assoc old (f x) (flat_map f (drop (i + 1) xs))
      ∙ ap (λ y. old ++ (f y ++ flat_map f (drop (i + 1) xs))) is
      ∙ sym (at_drop_more (λ ys. old ++ flat_map f ys) xs i x inside)
      ∙ so_far

  pub added_over : (old : List B) → length xs ≤ i → old ++ flat_map f (drop i xs) ≡ whole → old ≡ whole
  added_over old past so_far = sym (append-nil old) ∙ sym (ap (λ ys. old ++ flat_map f ys) (drop_all i xs past)) ∙ so_far

-- ---- the result for the elements that pass a test

module _ {A B : Type 0} (test : A → Bool) (value : A → B) (join : B → B → B) where
  abbrev joined_all : Option B → List B → Option B
  joined_all None ys = reduce join ys
  joined_all (Some y) ys = Some (fold join y ys)

  joined_first : (found : Option B) (y : B) (ys : List B) → joined_all (Some (joined join found y)) ys ≡ joined_all found (y ∷ ys)
  joined_first None y ys = refl
  joined_first (Some z) y ys = refl

  joined_none : (found : Option B) → found ≡ joined_all found []
  joined_none None = refl
  joined_none (Some y) = refl

  found_from : (found : Option B) (xs : List A) → fold (reduced test value join) found xs ≡ joined_all found (map value (filter test xs))
  found_from found [] = joined_none found
  found_from found (x ∷ xs) = elim (cases_Bool (test x)) [
    | inl here ↦ rw here
        (found_from (Some (joined join found (value x))) xs ∙ joined_first found (value x) (map value (filter test xs)))
    | inr past ↦ rw past (found_from found xs)
  ]

  pub found_all : (xs : List A) → fold (reduced test value join) None xs ≡ reduce join (map value (filter test xs))
  found_all xs = found_from None xs

pub same_values : {A : Type 0} (xs : List A) → map (λ x. x) xs ≡ xs
same_values [] = refl
same_values (x ∷ xs) = ap (λ ys. x ∷ ys) (same_values xs)

-- with the elements themselves as values
pub found_of : {A : Type 0} (test : A → Bool) (join : A → A → A) (xs : List A)
    → fold (reduced test (λ x. x) join) None xs ≡ reduce join (filter test xs)
found_of test join xs = found_all test (λ x. x) join xs ∙ ap (reduce join) (same_values (filter test xs))
