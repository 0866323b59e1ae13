-- The shape of a tree when a node without clients and children is removed.
use Rattle.std.specs.List.{AllByRecursion, IsDistinct}
use Rattle.std.specs.Option.{is_some, option_map_or}
use Rattle.std.proofs.Common.{sym, ap, subst, ◌∙◌, inl, inr, ◌≡◌, ◌≢◌, ◌==◌, ℕ, Bool, true, false, ◌||◌, List, [], ◌∷◌, ◌++◌, Option, None, Some, map}
use Rattle.std.proofs.lemmas.Bool.{true≢false, false≢true, cases_eq}
use Rattle.std.specs.Cmp.Lexicographic.{bytes_decides}
use Rattle.std.proofs.lemmas.List.{same_from_push}
use Rattle.drf_tree.proofs.Names.{same_text, Path, IsClientPath, IsNodePath, each_from, each_from_both, Child, Place, IsGone, child_name, has_child}
use Rattle.drf_tree.proofs.growth.Shape.{IsChildIn, IsShapeIn, any_less, client_in, differs, each_less, each_of, live_in, node_in, once_less, parent_in, path_in}
use Rattle.drf_tree.proofs.shape.Way.{not_equal}

module _ (at now : ℕ → Option Place) (kids new : ℕ → List Child) (flag flags : ℕ → Bool) (shape : IsShapeIn at kids flag)
    (node parent : ℕ) (live : live_in at node ≡ true) (bare : kids node ≡ []) (parent_is : parent_in at node ≡ parent)
    (gone : now node ≡ None) (rest : (i : ℕ) → i ≢ node → now i ≡ at i)
    (less : IsGone node (kids parent) (new parent)) (others : (i : ℕ) → i ≢ parent → new i ≡ kids i)
    (unmarked : flags node ≡ false) (flag_rest : (i : ℕ) → i ≢ node → flags i ≡ flag i) where
  abbrev child : Child
  child = less.child

  number : child.node ≡ node
  number = less.node_is

  -- the node is not the parent of any node, because it has no children
  not_above : (i : ℕ) → live_in at i ≡ true → parent_in at i ≢ node
  not_above i is same =
      false≢true (ap (has_child i) (sym (ap kids same ∙ bare)) ∙ (shape.kept i is).1)

  apart : parent ≢ node
  apart same = not_above node live (parent_is ∙ same)

  -- a node that is live now is not the removed one
  now_other : (i : ℕ) → live_in now i ≡ true → i ≢ node
  now_other i is same = true≢false (sym is ∙ ap (live_in now) same ∙ ap (λ (o : Option Place). is_some o) gone)

  was_live : (i : ℕ) → live_in now i ≡ true → live_in at i ≡ true
  was_live i is = ap (λ (o : Option Place). is_some o) (sym (rest i (now_other i is))) ∙ is

  still_live : (i : ℕ) → i ≢ node → live_in at i ≡ true → live_in now i ≡ true
  still_live i other is = ap (λ (o : Option Place). is_some o) (rest i other) ∙ is

  still_node : (i : ℕ) → i ≢ node → node_in at i ≡ true → node_in now i ≡ true
  still_node i other is = ap (λ (o : Option Place). (i == 0) || is_some o) (rest i other) ∙ is

  old_path : (i : ℕ) → i ≢ node → path_in now i ≡ path_in at i
  old_path i other = ap (λ (o : Option Place). option_map_or (λ p. p.path) o []) (rest i other)

  child_still : (i : ℕ) → i ≢ node → (c : Child) → c.node ≢ node → IsChildIn at i c → IsChildIn now i c
  child_still i other c past is =
      let same : now c.node ≡ at c.node = rest c.node past in
      record {
        live = ap (λ (o : Option Place). is_some o) same ∙ is.live;
        above = ap (λ (o : Option Place). option_map_or (λ p. p.parent) o 0) same ∙ is.above;
        path =
            ap (λ (o : Option Place). option_map_or (λ p. p.path) o []) same ∙ is.path
            ∙ ap (λ (p : Path). p ++ child_name c ∷ []) (sym (old_path i other));
      }

  -- the remaining siblings are other nodes, because names are distinct
  parts : IsDistinct same_text (map child_name (less.gone.before ++ less.gone.after))
      × AllByRecursion (differs (child_name child)) (less.gone.before ++ less.gone.after)
  parts =
      once_less child less.gone.before less.gone.after
      (subst (λ (cs : List Child). IsDistinct same_text (map child_name cs)) less.gone.more_is (shape.once parent))

  old_children : AllByRecursion (IsChildIn at parent) (less.gone.before ++ child ∷ less.gone.after)
  old_children = subst (AllByRecursion (IsChildIn at parent)) less.gone.more_is (shape.children parent)

  sibling : (c : Child) → IsChildIn at parent c → differs (child_name child) c → c.node ≢ node
  sibling c is differ same =
      let was = each_of (IsChildIn at parent) child less.gone.before less.gone.after old_children in
      let paths : path_in at parent ++ child_name child ∷ [] ≡ path_in at parent ++ child_name c ∷ [] =
      sym was.path ∙ ap (path_in at) (number ∙ sym same) ∙ is.path in
      let names = same_from_push (path_in at parent) (path_in at parent) (child_name child) (child_name c) paths in
      true≢false (sym ((bytes_decides (child_name child) (child_name c)).1 names.1) ∙ differ)

  children_now : (i : ℕ) → AllByRecursion (IsChildIn now i) (new i)
  children_now i = elim (cases_eq i parent) [
    | inl same ↦
        subst (λ (k : ℕ). AllByRecursion (IsChildIn now k) (new k)) (sym same)
        (subst (AllByRecursion (IsChildIn now parent)) (sym less.gone.less_is)
        (each_from_both (IsChildIn at parent) (differs (child_name child)) (IsChildIn now parent)
        (less.gone.before ++ less.gone.after)
        (λ c is differ. child_still parent apart c (sibling c is differ) is)
        (each_less (IsChildIn at parent) child less.gone.before less.gone.after old_children) parts.1))
    | inr other ↦
        subst (AllByRecursion (IsChildIn now i)) (sym (others i other))
        (elim (cases_eq i node) [
          | inl here ↦ subst (AllByRecursion (IsChildIn now i)) (sym (ap kids here ∙ bare)) tt
          | inr past ↦
              each_from (IsChildIn at i) (IsChildIn now i) (kids i)
              (λ c is. child_still i past c
              (λ same. other (sym is.above ∙ ap (parent_in at) same ∙ parent_is)) is)
              (shape.children i)
        ])
  ]

  kept_now : (i : ℕ) → live_in now i ≡ true
      → (node_in now (parent_in now i) ≡ true) × (has_child i (new (parent_in now i)) ≡ true)
  kept_now i is =
      let was = shape.kept i (was_live i is) in
      let same : parent_in now i ≡ parent_in at i =
      ap (λ (o : Option Place). option_map_or (λ p. p.parent) o 0) (rest i (now_other i is)) in (
        ap (node_in now) same ∙ still_node (parent_in at i) (not_above i (was_live i is)) was.0,
        ap (λ (k : ℕ). has_child i (new k)) same ∙ has_now (parent_in at i) i (now_other i is) was.1,
      )
    where
      has_now : (k i : ℕ) → i ≢ node → has_child i (kids k) ≡ true → has_child i (new k) ≡ true
      has_now k i other some = elim (cases_eq k parent) [
        | inl here ↦
            let at_parent : has_child i (less.gone.before ++ child ∷ less.gone.after) ≡ true =
            ap (has_child i) (sym less.gone.more_is) ∙ ap (λ (j : ℕ). has_child i (kids j)) (sym here) ∙ some in
            ap (λ (j : ℕ). has_child i (new j)) here ∙ ap (has_child i) less.gone.less_is
            ∙ any_less (λ c. c.node == i) child less.gone.before less.gone.after
            (not_equal child.node i (λ same. other (sym same ∙ number))) at_parent
        | inr past ↦ ap (has_child i) (others k past) ∙ some
      ]

  once_now : (i : ℕ) → IsDistinct same_text (map child_name (new i))
  once_now i = elim (cases_eq i parent) [
    | inl same ↦
        subst (λ (k : ℕ). IsDistinct same_text (map child_name (new k))) (sym same)
        (subst (λ (cs : List Child). IsDistinct same_text (map child_name cs)) (sym less.gone.less_is) parts.0)
    | inr other ↦ subst (λ (cs : List Child). IsDistinct same_text (map child_name cs)) (sym (others i other)) (shape.once i)
  ]

  client_still : (i : ℕ) → i ≢ node → client_in now i ≡ client_in at i
  client_still i other = ap (λ (o : Option Place). option_map_or (λ p. p.client) o None) (rest i other)

  others_now : (i : ℕ) (path : Path) → client_in now i ≡ Some path → (path_in now i ≡ path) × IsClientPath path
  others_now i path is = elim (cases_eq i node) [
    | inl here ↦
        let bad : None ≡ Some path =
        sym (ap (client_in now) here ∙ ap (λ (o : Option Place). option_map_or (λ p. p.client) o None) gone) ∙ is in
        absurd cc
    | inr other ↦
        let of = shape.others i path (sym (client_still i other) ∙ is) in
        (old_path i other ∙ of.0, of.1)
  ]

  free_now : (i : ℕ) → node_in now i ≡ false → new i ≡ []
  free_now i free = elim (cases_eq i node) [
    | inl here ↦ others i (λ same. apart (sym same ∙ here)) ∙ ap kids here ∙ bare
    | inr other ↦
        let none : node_in at i ≡ false = ap (λ (o : Option Place). (i == 0) || is_some o) (sym (rest i other)) ∙ free in
        others i (λ same. true≢false (sym (there same) ∙ none)) ∙ shape.free i none
  ]
    where
      there : i ≡ parent → node_in at i ≡ true
      there same = ap (node_in at) (same ∙ sym parent_is) ∙ (shape.kept node live).0

  pub withered : IsShapeIn now new flags
  withered = record {
    root = rest 0 (λ same. true≢false (sym live ∙ ap (live_in at) (sym same) ∙ ap (λ (o : Option Place). is_some o) shape.root)) ∙ shape.root;
    children = children_now;
    kept = kept_now;
    once = once_now;
    distinct = λ i j live_i live_j same.
        shape.distinct i j (was_live i live_i) (was_live j live_j)
        (sym (old_path i (now_other i live_i)) ∙ same ∙ old_path j (now_other j live_j));
    right = λ i is. subst IsNodePath (sym (old_path i (now_other i is))) (shape.right i (was_live i is));
    clients = λ i is client.
        client_still i (now_other i is)
        ∙ shape.clients i (was_live i is) (subst IsClientPath (old_path i (now_other i is)) client)
        ∙ ap (λ (p : Path). Some p) (sym (old_path i (now_other i is)));
    others = others_now;
    free = free_now;
    unmarked = λ i marked. elim (cases_eq i node) [
      | inl here ↦ absurd (true≢false (sym marked ∙ ap flags here ∙ unmarked))
      | inr other ↦ still_live i other (shape.unmarked i (sym (flag_rest i other) ∙ marked))
    ];
  }
