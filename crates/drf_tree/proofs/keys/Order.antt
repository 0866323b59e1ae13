-- Siblings with right keys are in the order of the definition.
use Rattle.std.specs.declared.cmp.Ordering.{Ordering}
use Rattle.std.specs.declared.cmp.Ordering.TheVariants.{Equal}
use Rattle.std.specs.List.{AllByRecursion, IsDistinct, list_all}
use Rattle.std.specs.Ordering.{nat_cmp, is_lt, ordering_reverse, ordering_then}
use Rattle.std.specs.Cmp.Lexicographic.{slice_cmp}
use Rattle.std.proofs.Common.{◌≢◌, refl, sym, ap, ◌∙◌, ◌≡◌, ◌<◌, true, false, not, List, [], ◌∷◌, ◌++◌, map}
use Rattle.std.proofs.lemmas.Bool.{true≢false, and_from, and_parts}
use Rattle.std.proofs.lemmas.Map.Keys.{IsDistinct-head, IsDistinct-tail}
use Rattle.drf_tree.proofs.Names.{Text, same_text, same_itself, Path, Key, key_by, key_cmp, key_of, Child, IsSameKey, are_sorted, child_name, is_not_behind, are_ahead}
use Rattle.drf_rows.specs.Share.{Fraction, Standing, is_ahead}
use Rattle.drf_sorter.specs.Fractions.{fraction_cmp}
use Rattle.drf_sorter.specs.laws.FractionLaws.{fraction_cmp-antisymm, fraction_cmp-congr}
use Rattle.drf_sorter.proofs.theorems.OrderLaws.{is_ahead-is, is_ahead-total, weighted_share-above}
use Rattle.drf_sorter.specs.Served.{Weighs}

-- equal fractions compare in the same way
fraction_cmp-same : (a b f g : Fraction) → 0 < a.whole → 0 < b.whole → 0 < f.whole → 0 < g.whole
    → fraction_cmp a f ≡ Equal → fraction_cmp b g ≡ Equal → fraction_cmp a b ≡ fraction_cmp f g
fraction_cmp-same a b f g p q r s first second =
    fraction_cmp-congr a f b p r q first
    ∙ fraction_cmp-antisymm f b
    ∙ ap ordering_reverse (fraction_cmp-congr b g f q s r second)
    ∙ sym (fraction_cmp-antisymm f g)

-- equal keys compare in the same way
key_cmp-same : (a b k l : Key) → 0 < k.share.whole → 0 < l.share.whole → IsSameKey a k → IsSameKey b l
    → key_cmp a b ≡ key_cmp k l
key_cmp-same a b k l p q first second =
    let shares : fraction_cmp a.share b.share ≡ fraction_cmp k.share l.share =
    fraction_cmp-same a.share b.share k.share l.share first.some second.some p q first.share second.share in
    λ i. ordering_then (shares i)
    (ordering_then (nat_cmp (first.count i) (second.count i)) (slice_cmp nat_cmp (first.name i) (second.name i)))

-- the key of a child is right at a node
abbrev pub IsRightAt : Standing → Path → Child → Type 0
IsRightAt s node c = IsSameKey (key_by c.key) (key_of s node (child_name c))

module _ (s : Standing) (weighs : Weighs s) (node : Path) where
  above : (name : Text) → 0 < (key_of s node name).share.whole
  above name = weighted_share-above s (node ++ name ∷ []) (weighs (node ++ name ∷ []))

  ahead_of : (a b : Child) → IsRightAt s node a → IsRightAt s node b → same_text (child_name a) (child_name b) ≡ false
      → is_not_behind a b ≡ true → is_ahead s node (child_name a) (child_name b) ≡ true
  ahead_of a b right_a right_b other order =
      let apart : child_name b ≢ child_name a =
      λ e. true≢false (sym (same_itself (child_name a)) ∙ ap (same_text (child_name a)) (sym e) ∙ other) in
      let same : key_cmp (key_by b.key) (key_by a.key) ≡ key_cmp (key_of s node (child_name b)) (key_of s node (child_name a)) =
      key_cmp-same (key_by b.key) (key_by a.key) (key_of s node (child_name b)) (key_of s node (child_name a))
      (above (child_name b)) (above (child_name a)) right_b right_a in
      is_ahead-total s node (child_name b) (child_name a) apart
      ∙ ap not (is_ahead-is s node (child_name b) (child_name a))
      ∙ ap (λ (o : Ordering). not (is_lt o)) (sym same)
      ∙ order

  all_ahead : (a : Child) (cs : List Child) → IsRightAt s node a → AllByRecursion (IsRightAt s node) cs
      → AllByRecursion (λ name. same_text (child_name a) name ≡ false) (map child_name cs)
      → list_all (is_not_behind a) cs ≡ true → list_all (is_ahead s node (child_name a)) (map child_name cs) ≡ true
  all_ahead a [] right rights others order = refl
  all_ahead a (b ∷ cs) right rights others order =
      let parts = and_parts (is_not_behind a b) (list_all (is_not_behind a) cs) order in
      and_from (is_ahead s node (child_name a) (child_name b)) (list_all (is_ahead s node (child_name a)) (map child_name cs))
      (ahead_of a b right rights.0 others.0 parts.0) (all_ahead a cs right rights.1 others.1 parts.1)

  -- a family that is sorted by right keys is in the definition's order
  pub ordered_names : (cs : List Child) → are_sorted cs ≡ true → AllByRecursion (IsRightAt s node) cs
      → IsDistinct same_text (map child_name cs) → are_ahead s node (map child_name cs) ≡ true
  ordered_names [] sorted rights once = refl
  ordered_names (a ∷ cs) sorted rights once =
      let parts = and_parts (list_all (is_not_behind a) cs) (are_sorted cs) sorted in
      and_from (list_all (is_ahead s node (child_name a)) (map child_name cs)) (are_ahead s node (map child_name cs))
      (all_ahead a cs rights.0 rights.1 (IsDistinct-head same_text (child_name a) (map child_name cs) once) parts.0)
      (ordered_names cs parts.1 rights.1 (IsDistinct-tail same_text (child_name a) (map child_name cs) once))
