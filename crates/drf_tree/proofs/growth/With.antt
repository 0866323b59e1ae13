-- What holds of a family holds with one more child, and with one fewer.
use Rattle.std.specs.List.{AllByRecursion, IsDistinct, list_any}
use Rattle.std.specs.List.Sorted.{IsPermutation}
use Rattle.std.specs.Cmp.Lexicographic.{nat_list_eq_equiv}
use Rattle.std.specs.Option.{option_map_or}
use Rattle.std.proofs.Common.{◌≢◌, sym, ap, subst, inl, inr, ◌≡◌, ◌<◌, ℕ, Bool, ◌||◌, List, [], ◌∷◌, ◌++◌, Option, length, map, slice_set}
use Rattle.std.proofs.lemmas.Bool.{cases_eq}
use Rattle.std.proofs.lemmas.List.Sorted.{IsPermutation-map, IsPermutation-middle, list_any-IsPermutation}
use Rattle.std.proofs.lemmas.Map.Keys.{IsDistinct-IsPermutation}
use Rattle.drf_tree.proofs.Names.{same_text, each_append, each_parts, Child, Family, IsWith, child_name, children_at}
use Rattle.drf_tree.proofs.shape.Slice.{get_set_other, get_set_same}

-- ---- one more child

pub names_flip : (x y : List ℕ) → same_text x y ≡ same_text y x
names_flip = nat_list_eq_equiv.symm

module _ (child : Child) (less more : List Child) (with : IsWith child less more) where
  pub moved_to_prefix : IsPermutation more (child ∷ less)
  moved_to_prefix =
      subst (λ (cs : List Child). IsPermutation cs (child ∷ less)) (sym with.more_is)
      (subst (λ (cs : List Child). IsPermutation (with.before ++ child ∷ with.after) (child ∷ cs)) (sym with.less_is)
      (IsPermutation-middle with.before child with.after))

  pub each_with : (P : Child → Type 0) → P child → AllByRecursion P less → AllByRecursion P more
  each_with P here all =
      let parts = each_parts P with.before with.after (subst (AllByRecursion P) with.less_is all) in
      subst (AllByRecursion P) (sym with.more_is) (each_append P with.before (child ∷ with.after) parts.0 (here, parts.1))

  pub each_without : (P : Child → Type 0) → AllByRecursion P more → P child × AllByRecursion P less
  each_without P all =
      let parts = each_parts P with.before (child ∷ with.after) (subst (AllByRecursion P) with.more_is all) in
      (parts.1.0, subst (AllByRecursion P) (sym with.less_is) (each_append P with.before with.after parts.0 parts.1.1))

  pub any_with : {X : Type 0} (g : Child → X) (t : X → Bool) → list_any t (map g more) ≡ (t (g child) || list_any t (map g less))
  any_with g t = list_any-IsPermutation t (map g more) (map g (child ∷ less)) (IsPermutation-map g more (child ∷ less) moved_to_prefix)

  pub once_without : IsDistinct same_text (map child_name more) → IsDistinct same_text (child_name child ∷ map child_name less)
  once_without distinct =
      IsDistinct-IsPermutation same_text names_flip (map child_name more) (child_name child ∷ map child_name less)
      (IsPermutation-map child_name more (child ∷ less) moved_to_prefix) distinct

-- ---- one family is replaced

pub set_family_same : (families : List Family) (i : ℕ) (f : Family) → i < length families
    → children_at (slice_set families i f) i ≡ f.children.items
set_family_same families i f below =
    ap (λ (o : Option Family). option_map_or (λ g. g.children.items) o []) (get_set_same families i f below)

pub set_family_other : (families : List Family) (i j : ℕ) (f : Family) → j ≢ i
    → children_at (slice_set families i f) j ≡ children_at families j
set_family_other families i j f other =
    ap (λ (o : Option Family). option_map_or (λ g. g.children.items) o []) (get_set_other families i j f other)

-- what holds of each family and of the new one holds of each after the replacement
pub each_family : (P : ℕ → List Child → Type 0) (families : List Family) (i : ℕ) (f : Family) → i < length families
    → P i f.children.items → ((j : ℕ) → j ≢ i → P j (children_at families j)) → (j : ℕ) → P j (children_at (slice_set families i f) j)
each_family P families i f below here others j = elim (cases_eq j i) [
  | inl same ↦
      subst (λ (k : ℕ). P k (children_at (slice_set families i f) k)) (sym same)
      (subst (P i) (sym (set_family_same families i f below)) here)
  | inr other ↦ subst (P j) (sym (set_family_other families i j f other)) (others j other)
]
