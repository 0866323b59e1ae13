-- The walk is in order.
use Rattle.std.specs.List.{list_all, list_any, AllByRecursion}
use Rattle.std.proofs.Common.{refl, sym, ap, subst, ◌∙◌, inl, inr, append_assoc, ◌≡◌, zero, suc, true, false, List, [], ◌∷◌, ◌++◌, flat_map, map, ℕ, append-nil}
use Rattle.std.proofs.lemmas.Bool.{true≢false, cases_Bool, and_from, and_parts}
use Rattle.drf_tree.proofs.Names.{Text, same_text, same_from_test, same_itself, Path, same_path, walk, are_ahead, IsChild, AreFamilies}
use Rattle.drf_rows.specs.Share.{Standing, is_ahead, stands_before_below, stands_before, is_serving_order}
use Rattle.drf_row_laws.proofs.ServingOrder.{is_ahead-back}
use Rattle.drf_tree.proofs.walk.Below.{all_join, beneath}

-- a child that is before another has a different name
other_names : (s : Standing) (node : Path) (a b : Text) → is_ahead s node a b ≡ true → same_text a b ≡ false
other_names s node a b ahead = elim (cases_Bool (same_text a b)) [
  | inl same ↦
      let itself : is_ahead s node a a ≡ true = subst (λ (n : Text). is_ahead s node a n ≡ true) (sym (same_from_test a b same)) ahead in
      absurd (true≢false (sym itself ∙ is_ahead-back s node a a itself))
  | inr other ↦ other
]

-- where two paths first differ below a node, the names there decide
parting : (s : Standing) (above node : Path) (a b : Text) (xs ys : Path) → same_text a b ≡ false
    → stands_before_below s above (node ++ a ∷ xs) (node ++ b ∷ ys) ≡ is_ahead s (above ++ node) a b
parting s above [] a b xs ys other =
    let here : stands_before_below s above (a ∷ xs) (b ∷ ys) ≡ is_ahead s above a b = rw other refl in
    here ∙ ap (λ (n : Path). is_ahead s n a b) (sym (append-nil above))
parting s above (p ∷ node) a b xs ys other =
    let here : stands_before_below s above (p ∷ (node ++ a ∷ xs)) (p ∷ (node ++ b ∷ ys))
    ≡ stands_before_below s (above ++ p ∷ []) (node ++ a ∷ xs) (node ++ b ∷ ys) = rw (same_itself p) refl in
    here ∙ parting s (above ++ p ∷ []) node a b xs ys other
    ∙ ap (λ (n : Path). is_ahead s n a b) (append_assoc above (p ∷ []) node)

-- everything below a child comes before everything below a later sibling
across : (s : Standing) (node : Path) (a b : Text) (xs ys : Path) → is_ahead s node a b ≡ true
    → stands_before s ((node ++ a ∷ []) ++ xs) ((node ++ b ∷ []) ++ ys) ≡ true
across s node a b xs ys ahead =
    (λ i. stands_before s (append_assoc node (a ∷ []) xs i) (append_assoc node (b ∷ []) ys i))
    ∙ parting s [] node a b xs ys (other_names s node a b ahead) ∙ ahead

order_join : (s : Standing) (xs ys : List Path) → is_serving_order s xs ≡ true → is_serving_order s ys ≡ true
    → list_all (λ x. list_all (stands_before s x) ys) xs ≡ true → is_serving_order s (xs ++ ys) ≡ true
order_join s [] ys one two between = two
order_join s (x ∷ xs) ys one two between =
    let ones = and_parts (list_all (stands_before s x) xs) (is_serving_order s xs) one in
    let betweens = and_parts (list_all (stands_before s x) ys) (list_all (λ x. list_all (stands_before s x) ys) xs) between in
    and_from (list_all (stands_before s x) (xs ++ ys)) (is_serving_order s (xs ++ ys))
    (all_join (stands_before s x) xs ys ones.0 betweens.0) (order_join s xs ys ones.1 two betweens.1)

module _ {X : Type 0} (IsNode : X → Type 0) (path : X → Path) (name : X → Text) (family : X → List X) (s : Standing)
    (clients : List Path) (families : AreFamilies IsNode path name family s clients) where
  abbrev Walked : ℕ → X → List Path
  Walked n x = walk clients path family n x

  -- everything below a child comes before everything below all later ones
  before_later : (n : ℕ) (x : X) (a : Text) (xs : Path) (cs : List X) → AllByRecursion (IsChild IsNode path name x) cs
      → list_all (is_ahead s (path x) a) (map name cs) ≡ true
      → list_all (stands_before s ((path x ++ a ∷ []) ++ xs)) (flat_map (Walked n) cs) ≡ true
  before_later n x a xs [] all ahead = refl
  before_later n x a xs (c ∷ cs) all ahead =
      let parts = and_parts (is_ahead s (path x) a (name c)) (list_all (is_ahead s (path x) a) (map name cs)) ahead in
      all_join (stands_before s ((path x ++ a ∷ []) ++ xs)) (Walked n c) (flat_map (Walked n) cs)
      (beneath IsNode path name family clients families.children (stands_before s ((path x ++ a ∷ []) ++ xs)) n c all.0.0
      (λ ys. ap (λ (p : Path). stands_before s ((path x ++ a ∷ []) ++ xs) (p ++ ys)) all.0.1
      ∙ across s (path x) a (name c) xs ys parts.0))
      (before_later n x a xs cs all.1 parts.1)

  children_in_order : (n : ℕ) (x : X) (cs : List X) → AllByRecursion (IsChild IsNode path name x) cs
      → ((c : X) → IsNode c → is_serving_order s (Walked n c) ≡ true)
      → are_ahead s (path x) (map name cs) ≡ true → is_serving_order s (flat_map (Walked n) cs) ≡ true
  children_in_order n x [] all each ahead = refl
  children_in_order n x (c ∷ cs) all each ahead =
      let parts = and_parts (list_all (is_ahead s (path x) (name c)) (map name cs)) (are_ahead s (path x) (map name cs)) ahead in
      order_join s (Walked n c) (flat_map (Walked n) cs) (each c all.0.0) (children_in_order n x cs all.1 each parts.1)
      (beneath IsNode path name family clients families.children (λ p. list_all (stands_before s p) (flat_map (Walked n) cs)) n c all.0.0
      (λ xs. ap (λ (p : Path). list_all (stands_before s (p ++ xs)) (flat_map (Walked n) cs)) all.0.1
      ∙ before_later n x (name c) xs cs all.1 parts.0))

  pub walk-in_order : (n : ℕ) (x : X) → IsNode x → is_serving_order s (Walked n x) ≡ true
  walk-in_order zero x node = elim (cases_Bool (list_any (same_path (path x)) clients)) [
    | inl one ↦ rw one refl
    | inr none ↦ rw none refl
  ]
  walk-in_order (suc n) x node = elim (cases_Bool (list_any (same_path (path x)) clients)) [
    | inl one ↦ rw (one, families.leaves x node one) refl
    | inr none ↦ rw none
        (children_in_order n x (family x) (families.children x node) (walk-in_order n) (families.ordered x node))
  ]
