-- A tree with only the root.
use Rattle.std.specs.Option.{is_some, option_map_or}
use Rattle.std.specs.List.{AllByRecursion, IsDistinct}
use Rattle.std.proofs.Common.{refl, sym, ap, subst, ◌∙◌, arith, ◌≡◌, ℕ, zero, suc, true, false, List, [], ◌∷◌, Option, None, Some, length, map, slice_index_or}
use Rattle.std.proofs.lemmas.Bool.{true≢false, false≢true}
use Rattle.drf_tree.proofs.Names.{empty, Child, Place, Tree, child_name, children_at, client_at, is_live, place_at, IsTidy, IsMarkedOrRight, IsTreeOf, Path, same_text}
use Rattle.drf_tree.proofs.growth.Shape.{IsChildIn, shape_from}

none_at : (i : ℕ) → place_at (None ∷ []) i ≡ None
none_at zero = refl
none_at (suc i) = refl

no_mark : (i : ℕ) → slice_index_or (false ∷ []) i false ≡ false
no_mark zero = refl
no_mark (suc i) = refl

module _ (tree : Tree) (places : tree.places.items ≡ None ∷ []) (families : (i : ℕ) → children_at tree.families.items i ≡ [])
    (families_long : length tree.families.items ≡ 1) (stale : tree.marks.stale ≡ false ∷ [])
    (sums_long : length tree.sums.items ≡ 1) where
  nothing : (i : ℕ) → place_at tree.places.items i ≡ None
  nothing i = ap (λ (ps : List (Option Place)). place_at ps i) places ∙ none_at i

  not_live : (i : ℕ) → is_live tree.places.items i ≡ true → ⊥
  not_live i live = false≢true (sym (ap (λ (o : Option Place). is_some o) (nothing i)) ∙ live)

  pub opened_tidy : IsTidy empty tree.places.items
  opened_tidy i live = absurd (not_live i live)

  pub opened : IsTreeOf empty tree
  unfolding IsDistinct
  opened = record {
    paths = tt;
    distinct = tt;
    shape =
        shape_from tree.places.items tree.families.items tree.marks.stale tree.sums.items
        (omega (arith, ap length places)) (omega (arith, sums_long, ap length places)) (omega (arith, families_long, ap length places))
        (omega (arith, ap length stale, ap length places))
        record {
          root = nothing 0;
          children = λ i. subst (AllByRecursion (IsChildIn (λ i. place_at tree.places.items i) i)) (sym (families i)) tt;
          kept = λ i live. absurd (not_live i live);
          once = λ i. subst (λ (cs : List Child). IsDistinct same_text (map child_name cs)) (sym (families i)) tt;
          distinct = λ i j live other same. absurd (not_live i live);
          right = λ i live. absurd (not_live i live);
          clients = λ i live is. absurd (not_live i live);
          others = λ i path is. absurd (no_client_at i path is);
          free = λ i free. families i;
          unmarked = λ i marked.
              absurd (true≢false (sym marked ∙ ap (λ flags. slice_index_or flags i false) stale ∙ no_mark i));
        };
    sums = λ i sum live at. absurd (not_live i live);
    complete = λ i node part below some. absurd (false≢true some);
    right = λ i. subst (AllByRecursion (IsMarkedOrRight empty tree.places.items tree.marks.stale i)) (sym (families i)) tt;
  }
    where
      no_client_at : (i : ℕ) (path : Path) → client_at tree.places.items i ≡ Some path → ⊥
      no_client_at i path is =
          let bad : None ≡ Some path = sym (ap (λ (o : Option Place). option_map_or (λ p. p.client) o None) (nothing i)) ∙ is in
          cc
