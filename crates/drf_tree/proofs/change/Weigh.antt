-- The tree after a weight is set.
use Rattle.std.proofs.Common.{refl, sym, ap, subst, ◌∙◌, inl, inr, arith, get_or-set_same, get_or-set_other, length-set, ◌≡◌, ◌≢◌, ℕ, Bool, true, false, List, [], ◌∷◌, ◌++◌, Option, Some, length, slice_get, slice_index_or, slice_set}
use Rattle.std.proofs.lemmas.Bool.{cases_Bool, cases_eq}
use Rattle.drf_tree.proofs.Names.{Path, same_path, same_path-true, each_from_both, Key, key_by, Child, Place, Sum, Tree, IsSameKey, child_name, children_at, is_live, path_at, AreRight, AreSums, IsChildOf, IsMarkedOrRight, IsRight, IsSumOf, IsTreeOf}
use Rattle.drf_rows.specs.Held.{weight_of}
use Rattle.drf_row_laws.proofs.WeightLaws.{weight_of-set}
use Rattle.drf_rows.specs.Weights.{weights_with}
use Rattle.drf_rows.specs.declared.rows.WeightRow.{WeightRow}
use Rattle.drf_sorter.specs.Content.{Content, standing_in, with_weight}
use Rattle.drf_tree.proofs.shape.Node.{live_within}
use Rattle.drf_tree.proofs.sums.Move.{key_again}
use Rattle.drf_tree.proofs.shape.Slice.{get_set_same, get_set_other}
use Rattle.drf_tree.proofs.change.Tree.{shape_again, tree_from}

-- all other nodes keep their weight
weight_beside : (role : Path) (weight : ℕ) (ws : List WeightRow) (node : Path) → same_path role node ≡ false
    → weight_of (weights_with ws role weight) node ≡ weight_of ws node
weight_beside role weight [] node other = rw other refl
weight_beside role weight (w ∷ ws) node other = elim (cases_Bool (same_path w.role role)) [
  | inl here ↦
      let fails = ap (λ (r : Path). same_path r node) (same_path-true w.role role here) ∙ other in
      rw (here, fails) refl
  | inr past ↦ elim (cases_Bool (same_path w.role node)) [
    | inl found ↦ rw (past, found) refl
    | inr later ↦ rw (past, later) (weight_beside role weight ws node other)
  ]
]

module _ (content : Content) (role : Path) (weight : ℕ) where
  kept_weight : (p : Path) → p ≢ role
      → weight_of (with_weight content role weight).weights p ≡ weight_of content.weights p
  kept_weight p other = elim (cases_Bool (same_path role p)) [
    | inl same ↦ absurd (other (sym (same_path-true role p same)))
    | inr differ ↦ weight_beside role weight content.weights p differ
  ]

  sum_beside : (p : Path) (sum : Sum) → p ≢ role → IsSumOf content p sum → IsSumOf (with_weight content role weight) p sum
  unfolding standing_in
  sum_beside p sum other of = record {
    held = of.held;
    count = of.count;
    clients = of.clients;
    active = of.active;
    weight = of.weight ∙ sym (kept_weight p other);
  }

  sum_here : (sum : Sum) → IsSumOf content role sum
      → IsSumOf (with_weight content role weight) role (record sum { weight = weight })
  unfolding standing_in
  sum_here sum of = record {
    held = of.held;
    count = of.count;
    clients = of.clients;
    active = of.active;
    weight = sym (weight_of-set role weight content.weights);
  }

  right_beside : (places : List (Option Place)) (i : ℕ) (c : Child) → (path_at places i ++ child_name c ∷ []) ≢ role
      → IsRight content places i c → IsRight (with_weight content role weight) places i c
  right_beside places i c other right =
      subst (λ (k : Key). IsSameKey (key_by c.key) k)
      (sym (key_again content (with_weight content role weight) (path_at places i) (child_name c) (λ label. refl) refl
      (kept_weight (path_at places i ++ child_name c ∷ []) other) refl))
      right

  -- no node has this path
  pub unweighed_tree : (tree : Tree) → IsTreeOf content tree
      → ((i : ℕ) → is_live tree.places.items i ≡ true → path_at tree.places.items i ≢ role)
      → IsTreeOf (with_weight content role weight) tree
  unweighed_tree tree of far = record {
    paths = of.paths;
    distinct = of.distinct;
    shape = of.shape;
    sums = λ i sum live at. sum_beside (path_at tree.places.items i) sum (far i live) (of.sums i sum live at);
    complete = of.complete;
    right = λ i.
        each_from_both (IsChildOf tree.places.items i) (IsMarkedOrRight content tree.places.items tree.marks.stale i)
        (IsMarkedOrRight (with_weight content role weight) tree.places.items tree.marks.stale i)
        (children_at tree.families.items i) (here i) (of.shape.children i) (of.right i);
  }
    where
      here : (i : ℕ) (c : Child) → IsChildOf tree.places.items i c
          → IsMarkedOrRight content tree.places.items tree.marks.stale i c
          → IsMarkedOrRight (with_weight content role weight) tree.places.items tree.marks.stale i c
      here i c child was = elim was [
        | inl marked ↦ inl marked
        | inr right ↦
            inr (right_beside tree.places.items i c (λ same. far c.node child.live (child.path ∙ same)) right)
      ]

-- the node with this path has the weight, and is dirty
module _ (content : Content) (weight : ℕ) (old : Tree) (node : ℕ) (of : IsTreeOf content old)
    (live : is_live old.places.items node ≡ true) where
  abbrev role : Path
  role = path_at old.places.items node

  abbrev after : Content
  after = with_weight content role weight

  far : (i : ℕ) → is_live old.places.items i ≡ true → i ≢ node → path_at old.places.items i ≢ role
  far i there other same = other (of.shape.distinct i node there live same)

  module _ (s : Sum) (at : slice_get old.sums.items node ≡ Some s) (sums : List Sum)
      (sums_are : sums ≡ slice_set old.sums.items node (record s { weight = weight }))
      (stale : List Bool) (stale_is : stale ≡ slice_set old.marks.stale node true) where
    flag_here : slice_index_or stale node false ≡ true
    flag_here =
        ap (λ (flags : List Bool). slice_index_or flags node false) stale_is
        ∙ get_or-set_same old.marks.stale node true false
        (omega (arith, live_within old.places.items node live, of.shape.stale_long))

    flag_beside : (i : ℕ) → i ≢ node → slice_index_or stale i false ≡ slice_index_or old.marks.stale i false
    flag_beside i other =
        ap (λ (flags : List Bool). slice_index_or flags i false) stale_is
        ∙ get_or-set_other old.marks.stale node i true false other

    unmarked_now : (i : ℕ) → slice_index_or stale i false ≡ true → is_live old.places.items i ≡ true
    unmarked_now i marked = elim (cases_eq i node) [
      | inl same ↦ ap (is_live old.places.items) same ∙ live
      | inr other ↦ of.shape.unmarked i (sym (flag_beside i other) ∙ marked)
    ]

    sums_now : AreSums after old.places.items sums
    sums_now i t there now = elim (cases_eq i node) [
      | inl same ↦
          let read : Some t ≡ Some (record s { weight = weight }) =
          sym now
          ∙ ap (slice_get sums) same
          ∙ ap (λ (ts : List Sum). slice_get ts node) sums_are
          ∙ get_set_same old.sums.items node (record s { weight = weight })
          (omega (arith, live_within old.places.items node live, of.shape.sums_long)) in
          let is : t ≡ record s { weight = weight } = cc in
          let whole = sum_here content role weight s (of.sums node s live at) in
          subst (λ (k : ℕ). IsSumOf after (path_at old.places.items k) t) (sym same)
          (subst (IsSumOf after role) (sym is) whole)
      | inr other ↦
          let was : slice_get old.sums.items i ≡ Some t =
          sym (get_set_other old.sums.items node i (record s { weight = weight }) other)
          ∙ sym (ap (λ (ts : List Sum). slice_get ts i) sums_are) ∙ now in
          sum_beside content role weight (path_at old.places.items i) t (far i there other) (of.sums i t there was)
    ]

    right_here : (i : ℕ) (c : Child) → IsChildOf old.places.items i c
        → IsMarkedOrRight content old.places.items old.marks.stale i c → IsMarkedOrRight after old.places.items stale i c
    right_here i c child was = elim (cases_eq c.node node) [
      | inl same ↦ inl (ap (λ (k : ℕ). slice_index_or stale k false) same ∙ flag_here)
      | inr other ↦ elim was [
        | inl marked ↦ inl (flag_beside c.node other ∙ marked)
        | inr right ↦
            inr (right_beside content role weight old.places.items i c
            (λ same. far c.node child.live other (child.path ∙ same)) right)
      ]
    ]

    pub weighed_tree : (now : Tree) → now.places ≡ old.places → now.families ≡ old.families → now.sums.items ≡ sums
        → now.marks.stale ≡ stale → IsTreeOf after now
    weighed_tree now places families sums_is marks =
        tree_from after old now places families of.paths of.distinct
        (shape_again old.places.items old.families.items old.marks.stale now.marks.stale old.sums.items now.sums.items of.shape
        (ap length (marks ∙ stale_is) ∙ length-set old.marks.stale node true)
        (ap length (sums_is ∙ sums_are) ∙ length-set old.sums.items node (record s { weight = weight }))
        (λ i marked. unmarked_now i (ap (λ (flags : List Bool). slice_index_or flags i false) (sym marks) ∙ marked)))
        (subst (AreSums after old.places.items) (sym sums_is) sums_now)
        of.complete
        (subst (AreRight after old.places.items old.families.items) (sym marks)
        (λ i.
        each_from_both (IsChildOf old.places.items i) (IsMarkedOrRight content old.places.items old.marks.stale i)
        (IsMarkedOrRight after old.places.items stale i) (children_at old.families.items i) (right_here i)
        (of.shape.children i) (of.right i)))
