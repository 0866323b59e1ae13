-- Each part of a path to a node is the name of a child, so the children are still complete when a client is added at a leaf.
use Rattle.std.specs.Cmp.{IsEquivalence}
use Rattle.std.specs.Cmp.Lexicographic.{lists_equiv, nat_list_eq_equiv}
use Rattle.std.specs.List.{AllByRecursion, IsDistinct, list_any}
use Rattle.std.proofs.Common.{refl, sym, ap, subst, ◌∙◌, inl, inr, arith, length-append, append_assoc, ◌≡◌, ◌≤◌, ◌+◌, ℕ, zero, suc, Bool, true, false, ◌||◌, ◌==◌, List, [], ◌∷◌, ◌++◌, Option, drop, length, map}
use Rattle.std.proofs.lemmas.Bool.{true≢false, false≢true, or_cases}
use Rattle.std.proofs.lemmas.List.{append-nil, map-append, same_from_push}
use Rattle.std.proofs.lemmas.List.Folds.{list_any-append}
use Rattle.std.proofs.lemmas.Map.Keys.{IsDistinct-push}
use Rattle.drf_tree.proofs.Names.{Text, same_text, same_itself, Path, IsClientPath, begins_with, same_path, same_path-swap, same_path-true, each_append, Content, Ranked, has_client, with_client, Child, Family, Place, Sum, child_name, has_child, children_at, is_live, is_node, parent_at, path_at, IsChildOf, IsComplete, IsShape}
use Rattle.drf_tree.proofs.shape.Path.{begins_by, begins_prefix, begins_long, begins_to}
use Rattle.drf_tree.proofs.shape.Way.{above_of, equal, live_from, shorter_above, top_is}

-- the child with this number has the last part of the path as its name
named_there : (places : List (Option Place)) (node leaf : ℕ) (part : Text) (cs : List Child)
    → AllByRecursion (IsChildOf places node) cs → has_child leaf cs ≡ true
    → path_at places leaf ≡ path_at places node ++ part ∷ [] → list_any (same_text part) (map child_name cs) ≡ true
named_there places node leaf part [] all some whole = absurd (false≢true some)
named_there places node leaf part (c ∷ cs) all some whole = elim (or_cases (c.node == leaf) (has_child leaf cs) some) [
  | inl here ↦
      let path : path_at places leaf ≡ path_at places node ++ child_name c ∷ [] =
      ap (path_at places) (sym (equal c.node leaf here)) ∙ all.0.path in
      let name : part ≡ child_name c =
      (same_from_push (path_at places node) (path_at places node) part (child_name c) (sym whole ∙ path)).1 in
      let same : same_text part (child_name c) ≡ true = ap (same_text part) (sym name) ∙ same_itself part in
      first_of_two (same_text part (child_name c)) (list_any (same_text part) (map child_name cs)) same
  | inr past ↦
      second_of_two (same_text part (child_name c)) (list_any (same_text part) (map child_name cs))
      (named_there places node leaf part cs all.1 past whole)
]
  where
    first_of_two : (a b : Bool) → a ≡ true → (a || b) ≡ true
    first_of_two true b first = refl
    first_of_two false b first = absurd (false≢true first)

    second_of_two : (a b : Bool) → b ≡ true → (a || b) ≡ true
    second_of_two true b second = refl
    second_of_two false b second = second

module _ (places : List (Option Place)) (families : List Family) (stale : List Bool) (sums : List Sum)
    (shape : IsShape places families stale sums) where
  -- a node without parts is the root
  root_is : (i : ℕ) → is_node places i ≡ true → path_at places i ≡ [] → i ≡ 0
  root_is i node none = elim (or_cases (i == 0) (is_live places i) node) [
    | inl root ↦ equal i 0 root
    | inr live ↦ absurd (omega (arith, ap length none, shorter_above places families stale sums shape i live))
  ]

  -- no two nodes have the same path, the root included
  pub one_node : (i j : ℕ) → is_node places i ≡ true → is_node places j ≡ true → path_at places i ≡ path_at places j → i ≡ j
  one_node i j node_i node_j same = elim (or_cases (i == 0) (is_live places i) node_i) [
    | inl root ↦
        let zero_i : i ≡ 0 = equal i 0 root in
        zero_i ∙ sym (root_is j node_j (sym same ∙ ap (path_at places) zero_i ∙ top_is places families stale sums shape))
    | inr live ↦
        shape.distinct i j live
        (live_from places families stale sums shape j node_j
        (omega (arith, ap length same, shorter_above places families stale sums shape i live)))
        same
  ]

  -- the next part of a path below a node is the name of a child
  pub way_named : (most : ℕ) (leaf i : ℕ) (part : Text) → length (path_at places leaf) ≤ most → is_live places leaf ≡ true
      → is_node places i ≡ true → begins_with (path_at places leaf) (path_at places i ++ part ∷ []) ≡ true
      → list_any (same_text part) (map child_name (children_at families i)) ≡ true
  way_named zero leaf i part few live node begins =
      absurd (omega (arith, few, shorter_above places families stale sums shape leaf live))
  way_named (suc most) leaf i part few live node begins =
      by
      (λ prefix.
      let less : length (path_at places leaf) ≡ length (path_at places above) + 1 =
      shorter_above places families stale sums shape leaf live in
      way_named most above i part (omega (arith, less, few)) (live_above prefix) node prefix)
      (drop (length (path_at places i ++ part ∷ [])) (path_at places leaf))
      (begins_to (path_at places leaf) (path_at places i ++ part ∷ []) begins)
    where
      above : ℕ
      above = parent_at places leaf

      live_above : begins_with (path_at places above) (path_at places i ++ part ∷ []) ≡ true → is_live places above ≡ true
      live_above prefix =
          live_from places families stale sums shape above (shape.kept leaf live).0
          (omega (
            arith,
            begins_long (path_at places above) (path_at places i ++ part ∷ []) prefix,
            length-append (path_at places i) (part ∷ []),
          ))

      by : (begins_with (path_at places above) (path_at places i ++ part ∷ []) ≡ true
          → list_any (same_text part) (map child_name (children_at families i)) ≡ true)
          → (rest : Path) → path_at places leaf ≡ (path_at places i ++ part ∷ []) ++ rest
          → list_any (same_text part) (map child_name (children_at families i)) ≡ true
      by again [] whole =
          let longer = above_of places families stale sums shape leaf live in
          let last : path_at places leaf ≡ path_at places i ++ part ∷ [] = whole ∙ append-nil (path_at places i ++ part ∷ []) in
          let both = same_from_push (path_at places i) (path_at places above) part longer.part (sym last ∙ longer.joined) in
          let same : above ≡ i = sym (one_node i above node (shape.kept leaf live).0 both.0) in
          named_there places i leaf part (children_at families i) (shape.children i)
          (subst (λ (k : ℕ). has_child leaf (children_at families k) ≡ true) same (shape.kept leaf live).1) last
      by again (next ∷ rest) whole =
          let longer = above_of places families stale sums shape leaf live in
          again (begins_prefix (path_at places i ++ part ∷ []) rest (path_at places above) next longer.part
          (sym whole ∙ longer.joined))

  -- a client is added at a leaf
  pub complete_with : (content : Content) (path : Path) (leaf : ℕ) → is_live places leaf ≡ true → path_at places leaf ≡ path
      → IsComplete content places families → IsComplete (with_client content path) places families
  complete_with content path leaf live at complete i node part below some =
      let p : Path = path_at places i ++ part ∷ below in
      let paths : List Path = map (λ (c : Ranked). c.path) content.clients in
      let more : map (λ (c : Ranked). c.path) (with_client content path).clients ≡ paths ++ path ∷ [] =
      map-append (λ (c : Ranked). c.path) content.clients _ in
      let either : (list_any (same_path p) paths || list_any (same_path p) (path ∷ [])) ≡ true =
      sym (list_any-append (same_path p) paths (path ∷ [])) ∙ ap (list_any (same_path p)) (sym more) ∙ some in
      elim (or_cases (list_any (same_path p) paths) (list_any (same_path p) (path ∷ [])) either) [
        | inl old ↦ complete i node part below old
        | inr new ↦
            let same : p ≡ path = same_path-true p path (only (same_path p path) new) in
            way_named (length (path_at places leaf)) leaf i part (omega arith) live node
            (begins_by (path_at places leaf) (path_at places i ++ part ∷ []) below
            (at ∙ sym same ∙ sym (append_assoc (path_at places i) (part ∷ []) below)))
      ]
    where
      only : (b : Bool) → (b || false) ≡ true → b ≡ true
      only true is = refl
      only false is = is

-- paths with one more
paths_equiv : IsEquivalence same_path
paths_equiv = lists_equiv nat_list_eq_equiv

pub paths_with : (content : Content) (path : Path) → IsClientPath path
    → AllByRecursion IsClientPath (map (λ (c : Ranked). c.path) content.clients)
    → AllByRecursion IsClientPath (map (λ (c : Ranked). c.path) (with_client content path).clients)
paths_with content path right all =
    subst (AllByRecursion IsClientPath) (sym (map-append (λ (c : Ranked). c.path) content.clients _))
    (each_append IsClientPath (map (λ (c : Ranked). c.path) content.clients) (path ∷ []) all (right, tt))

-- a client that is not there has a different path
past_or : (b : Bool) (p q : Bool) → (p ≡ false → q ≡ false) → (b || p) ≡ false → (b || q) ≡ false
past_or true p q later bad = absurd (true≢false bad)
past_or false p q later past = later past

path_not_there : (path : Path) (cs : List Ranked) → list_any (λ c. same_path c.path path) cs ≡ false
    → list_any (same_path path) (map (λ (c : Ranked). c.path) cs) ≡ false
path_not_there path [] gone = refl
path_not_there path (c ∷ cs) gone =
    ap (λ (b : Bool). b || list_any (same_path path) (map (λ (c : Ranked). c.path) cs)) (same_path-swap path c.path)
    ∙ past_or (same_path c.path path) (list_any (λ c. same_path c.path path) cs)
    (list_any (same_path path) (map (λ (c : Ranked). c.path) cs)) (path_not_there path cs) gone

pub distinct_with : (content : Content) (path : Path) → has_client content path ≡ false
    → IsDistinct same_path (map (λ (c : Ranked). c.path) content.clients)
    → IsDistinct same_path (map (λ (c : Ranked). c.path) (with_client content path).clients)
distinct_with content path none distinct =
    subst (IsDistinct same_path) (sym (map-append (λ (c : Ranked). c.path) content.clients _))
    (IsDistinct-push paths_equiv (map (λ (c : Ranked). c.path) content.clients) path distinct
    (path_not_there path content.clients none))
