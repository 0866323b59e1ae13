-- Serial numbers by framework and name, after a change of one number.
use Rattle.std.specs.Prelude.{◌≡◌, ℕ, ◌==◌, ◌+◌, ◌≤◌, ◌&&◌, Bool, true, false, not, List, [], ◌∷◌, ◌++◌, length, map, filter, Option, Some, None, cond}
use Rattle.std.specs.Map.{lookup}
use Rattle.std.specs.Option.{option_map_or, option_to_list}
use Rattle.std.proofs.Common.{refl, sym, ap, ◌∙◌, arith}
use Rattle.std.proofs.lemmas.Bool.{eq-eqb}
use Rattle.std.proofs.lemmas.List.{append-nil}
use Rattle.drf_role.specs.Text.{Text, same_text}
use Rattle.drf_role.specs.TextLaws.{same_from_test}
use Rattle.drf_bundle.proofs.ListLaws.{filter-swap, filter_only}
use Rattle.drf_holdings.specs.Listed.{TaskKey}
use Rattle.drf_holdings.specs.Rising.{AreOthers}
use Rattle.drf_holdings.proofs.Lists.{none_in}
use Rattle.drf_holdings.proofs.Numbered.{is_other, filter-map}

module _ {M : Type 0} (entries : M → List (Text × ℕ)) where
  abbrev pub at_task : Option M → Text → List ℕ
  at_task o name = option_map_or (λ m. option_to_list (lookup (same_text name) (entries m))) o []

  abbrev pub serials_at : List (Text × M) → TaskKey → List ℕ
  serials_at es key = at_task (lookup (same_text key.0) es) key.1

  module _ (old new : List (Text × M)) (framework : Text) (w : M)
      (written : (q : Text) → lookup (same_text q) new ≡ cond (same_text framework q) (Some w) (lookup (same_text q) old)) where
    pub named_same : ((q : Text) → at_task (Some w) q ≡ at_task (lookup (same_text framework) old) q)
        → (key : TaskKey) → serials_at new key ≡ serials_at old key
    named_same same key =
        ap (λ (o : Option M). at_task o key.1) (written key.0)
        ∙ by (same_text framework key.0) (λ here. same_from_test framework key.0 here)
      where
        by : (b : Bool) → (b ≡ true → framework ≡ key.0)
            → at_task (cond b (Some w) (lookup (same_text key.0) old)) key.1 ≡ serials_at old key
        by true here = same key.1 ∙ ap (λ (t : Text). at_task (lookup (same_text t) old) key.1) (here refl)
        by false here = refl

    pub named_in : (name : Text) (serial : ℕ)
        → ((q : Text) → at_task (Some w) q ≡ cond (same_text name q) (serial ∷ []) (at_task (lookup (same_text framework) old) q))
        → at_task (lookup (same_text framework) old) name ≡ []
        → (key : TaskKey) → serials_at new key ≡ serials_at old key ++ cond (same_text framework key.0 && same_text name key.1) (serial ∷ []) []
    named_in name serial put free key =
        ap (λ (o : Option M). at_task o key.1) (written key.0)
        ∙ by (same_text framework key.0) (λ here. same_from_test framework key.0 here)
      where
        inner : (b : Bool) → (b ≡ true → name ≡ key.1)
            → cond b (serial ∷ []) (at_task (lookup (same_text framework) old) key.1)
            ≡ at_task (lookup (same_text framework) old) key.1 ++ cond b (serial ∷ []) []
        inner true here =
            let none : at_task (lookup (same_text framework) old) key.1 ≡ [] =
            sym (ap (at_task (lookup (same_text framework) old)) (here refl)) ∙ free in
            ap (λ (ns : List ℕ). ns ++ serial ∷ []) (sym none)
        inner false here = sym (append-nil (at_task (lookup (same_text framework) old) key.1))

        by : (b : Bool) → (b ≡ true → framework ≡ key.0)
            → at_task (cond b (Some w) (lookup (same_text key.0) old)) key.1
            ≡ serials_at old key ++ cond (b && same_text name key.1) (serial ∷ []) []
        by true here =
            put key.1
            ∙ inner (same_text name key.1) (λ same. same_from_test name key.1 same)
            ∙ ap (λ (t : Text). at_task (lookup (same_text t) old) key.1 ++ cond (same_text name key.1) (serial ∷ []) []) (here refl)
        by false here = sym (append-nil (serials_at old key))

  -- a framework has at most one task with a name
  pub few_at : (es : List (Text × M)) (key : TaskKey) → length (serials_at es key) ≤ 1
  few_at es key = by (lookup (same_text key.0) es)
    where
      one : (o : Option ℕ) → length (option_to_list o) ≤ 1
      one None = omega arith
      one (Some n) = omega arith

      by : (o : Option M) → length (at_task o key.1) ≤ 1
      by None = omega arith
      by (Some m) = one (lookup (same_text key.1) (entries m))

pub list_cond : (b : Bool) (n : ℕ) (o : Option ℕ) → option_to_list (cond b (Some n) o) ≡ cond b (n ∷ []) (option_to_list o)
list_cond true n o = refl
list_cond false n o = refl

-- what was added is removed again
pub undone : (b : Bool) (n : ℕ) (old mid new : List ℕ) → new ≡ cond b [] mid → mid ≡ old ++ cond b (n ∷ []) [] → (b ≡ true → old ≡ []) → new ≡ old
undone true n old mid new out put free = out ∙ sym (free refl)
undone false n old mid new out put free = out ∙ put ∙ append-nil old

module _ {X : Type 0} (number : X → ℕ) (before after : List X) (x : X)
    (past : AreOthers number (number x) before) (later : AreOthers number (number x) after) where
  long_out : (p : X → Bool) → p x ≡ true → (zs : List X)
      → length (map number (filter p (zs ++ x ∷ after))) ≡ length (map number (filter p (zs ++ after))) + 1
  long_out p here [] =
      ap (λ (b : Bool). length (map number (cond b (x ∷ filter p after) (filter p after)))) here ∙ omega arith
  long_out p here (z ∷ zs) = by (p z) (long_out p here zs)
    where
      by : (b : Bool) → length (map number (filter p (zs ++ x ∷ after))) ≡ length (map number (filter p (zs ++ after))) + 1
          → length (map number (cond b (z ∷ filter p (zs ++ x ∷ after)) (filter p (zs ++ x ∷ after))))
          ≡ length (map number (cond b (z ∷ filter p (zs ++ after)) (filter p (zs ++ after)))) + 1
      by true more = omega (arith, more)
      by false more = more

  -- the only listed number is removed
  pub only_out : (p : X → Bool) (ns : List ℕ) → ns ≡ map number (filter p (before ++ x ∷ after)) → length ns ≤ 1
      → (new : List ℕ) → new ≡ cond (p x) [] ns → new ≡ cond (p x) (filter (λ m. not (m == number x)) ns) ns
  only_out p ns listed few new out = out ∙ by (p x) (λ here. none here)
    where
      none : p x ≡ true → [] ≡ filter (λ m. not (m == number x)) ns
      none here =
          let rest : filter (λ m. not (m == number x)) ns ≡ map number (filter p (before ++ after)) =
          ap (filter (λ m. not (m == number x))) listed
          ∙ filter-map number (number x) (filter p (before ++ x ∷ after))
          ∙ ap (map number) (filter-swap (is_other number (number x)) p (before ++ x ∷ after))
          ∙ ap (λ (ys : List X). map number (filter p ys))
          (filter_only (λ y. number y == number x) before after x past (eq-eqb (number x) (number x) refl) later) in
          let long : length ns ≡ length (map number (filter p (before ++ after))) + 1 = ap length listed ∙ long_out p here before in
          sym (rest ∙ none_in (map number (filter p (before ++ after))) (omega (arith, long, few)))

      by : (b : Bool) → (b ≡ true → [] ≡ filter (λ m. not (m == number x)) ns)
          → cond b [] ns ≡ cond b (filter (λ m. not (m == number x)) ns) ns
      by true gone = gone refl
      by false gone = refl
