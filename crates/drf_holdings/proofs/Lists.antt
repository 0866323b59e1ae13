-- Lists of numbers by name, after a change of one list.
use Rattle.std.specs.Prelude.{◌≡◌, ℕ, ◌==◌, Bool, true, false, not, List, [], ◌∷◌, ◌++◌, Option, Some, None, cond, filter, length, Result, Ok, Err, OnErr}
use Rattle.std.specs.Cmp.{IsEquivalence}
use Rattle.std.specs.List.{IsDistinct}
use Rattle.std.specs.Map.{lookup, keys_of}
use Rattle.std.specs.Option.{option_map_or}
use Rattle.std.proofs.Common.{refl, sym, ap, ◌∙◌, inl, inr}
use Rattle.std.proofs.lemmas.Bool.{cases_Bool, eqb-true}
use Rattle.std.proofs.lemmas.List.{append-nil}
use Rattle.std.proofs.lemmas.Map.Entries.{lookup-filter-values, option_filter}
use Rattle.drf_role.specs.Text.{Text, same_text}
use Rattle.drf_role.specs.TextLaws.{same_from_test, same_itself}
use Rattle.drf_row_laws.proofs.ConsistentLaws.{same_text-swap}

-- what holds in any case holds after success and after failure
pub on_err : {T E : Type 0} (r : Result T E) (P : Type 0) → P → OnErr r P
on_err (Ok x) P p = tt
on_err (Err e) P p = p

pub none_in : {X : Type 0} (xs : List X) → length xs ≡ 0 → xs ≡ []
none_in [] long = refl
none_in (x ∷ xs) long = cc

texts_same : IsEquivalence same_text
texts_same = record {
  refl = same_itself;
  symm = same_text-swap;
  congr = λ a b c same. ap (λ (t : Text). same_text t c) (same_from_test a b same);
}

-- lists of any type
module _ {L : Type 0} (items : L → List ℕ) where
  abbrev pub items_or : Option L → List ℕ
  items_or o = option_map_or items o []

  abbrev pub numbers_at : List (Text × L) → Text → List ℕ
  numbers_at es q = items_or (lookup (same_text q) es)

  module _ (old new : List (Text × L)) (name : Text) (w : Option L)
      (written : (q : Text) → lookup (same_text q) new ≡ cond (same_text name q) w (lookup (same_text q) old)) where
    pub changed_at : (g : List ℕ → List ℕ) → items_or w ≡ g (numbers_at old name)
        → (q : Text) → numbers_at new q ≡ cond (same_text name q) (g (numbers_at old q)) (numbers_at old q)
    changed_at g is q = ap items_or (written q) ∙ by (same_text name q) (λ same. same_from_test name q same)
      where
        by : (b : Bool) → (b ≡ true → name ≡ q)
            → items_or (cond b w (lookup (same_text q) old)) ≡ cond b (g (numbers_at old q)) (numbers_at old q)
        by true same = is ∙ ap (λ (t : Text). g (numbers_at old t)) (same refl)
        by false same = refl

    -- a number is appended
    pub added_at : (number : ℕ) → items_or w ≡ numbers_at old name ++ number ∷ []
        → (q : Text) → numbers_at new q ≡ numbers_at old q ++ cond (same_text name q) (number ∷ []) []
    added_at number is q = changed_at (λ ns. ns ++ number ∷ []) is q ∙ by (same_text name q)
      where
        by : (b : Bool) → cond b (numbers_at old q ++ number ∷ []) (numbers_at old q) ≡ numbers_at old q ++ cond b (number ∷ []) []
        by true = refl
        by false = sym (append-nil (numbers_at old q))

    -- nothing changes
    pub same_at : items_or w ≡ numbers_at old name → (q : Text) → numbers_at new q ≡ numbers_at old q
    same_at is q = changed_at (λ ns. ns) is q ∙ by (same_text name q)
      where
        by : (b : Bool) → cond b (numbers_at old q) (numbers_at old q) ≡ numbers_at old q
        by true = refl
        by false = refl

  -- what is inserted and then removed is removed
  pub taken_out : (old mid new : List (Text × L)) (name : Text) (w : Option L)
      → ((q : Text) → lookup (same_text q) mid ≡ cond (same_text name q) w (lookup (same_text q) old))
      → ((q : Text) → lookup (same_text q) new ≡ cond (same_text name q) None (lookup (same_text q) mid))
      → (q : Text) → lookup (same_text q) new ≡ cond (same_text name q) None (lookup (same_text q) old)
  taken_out old mid new name w first second q =
      second q ∙ ap (cond (same_text name q) None) (first q) ∙ by (same_text name q)
    where
      by : (b : Bool) → cond b None (cond b w (lookup (same_text q) old)) ≡ cond b None (lookup (same_text q) old)
      by true = refl
      by false = refl

  -- the lists that are not empty stay
  pub some_kept : (size : L → ℕ) → ((v : L) → size v ≡ length (items v)) → (old new : List (Text × L)) → IsDistinct same_text (keys_of old) → new ≡ filter (λ e. not (size e.1 == 0)) old
      → (q : Text) → numbers_at new q ≡ numbers_at old q
  some_kept size sized old new apart is q =
      ap (λ (es : List (Text × L)). numbers_at es q) is
      ∙ ap items_or (lookup-filter-values texts_same (λ v. not (size v == 0)) q old apart)
      ∙ by (lookup (same_text q) old)
    where
      by : (o : Option L) → items_or (option_filter (λ v. not (size v == 0)) o) ≡ items_or o
      by None = refl
      by (Some v) = elim (cases_Bool (size v == 0)) [
        | inl empty ↦ rw empty (sym (none_in (items v) (sym (sized v) ∙ eqb-true (size v) 0 empty)))
        | inr some ↦ rw some refl
      ]
