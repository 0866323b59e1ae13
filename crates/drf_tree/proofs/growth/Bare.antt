-- Removing a node without clients and children leaves a tree of the same clients.
use Rattle.std.specs.List.{AllByRecursion, list_any}
use Rattle.std.specs.Option.{is_some, option_map_or}
use Rattle.std.specs.Cmp.Lexicographic.{bytes_decides}
use Rattle.std.proofs.Common.{refl, sym, ap, subst, ◌∙◌, inl, inr, arith, append_assoc, get_or, length-set, get_or-set_same, get_or-set_other, ◌≡◌, ◌≢◌, ◌<◌, ◌+◌, ◌==◌, ℕ, Bool, true, false, ◌||◌, cond, List, [], ◌∷◌, ◌++◌, Option, None, Some, filter, length, map, slice_get, slice_index_or, slice_set}
use Rattle.std.proofs.lemmas.Bool.{true≢false, false≢true, and_parts, cases_Bool, cases_eq, or_cases}
use Rattle.std.proofs.lemmas.Option.{slice_get-get_or}
use Rattle.drf_tree.proofs.Names.{Text, same_text, Path, begins_with, same_path, same_path-true, each_from_both, key_by, key_of, Child, Family, Place, Sum, Tree, IsShapeOf, is_bare_at, IsGone, IsSameKey, child_name, Defers, children_at, is_live, is_node, parent_at, path_at, place_at, IsChildOf, IsMarkedOrRight, IsSumOf, IsTreeOf, IsTidyBut}
use Rattle.drf_sorter.specs.Content.{Content, Ranked, clients_under, standing_in}
use Rattle.drf_tree.proofs.change.Climb.{leaf_other}
use Rattle.drf_tree.proofs.marks.Flags.{defers-both}
use Rattle.drf_tree.proofs.shape.Node.{live_within, node_within}
use Rattle.drf_tree.proofs.shape.Path.{begins_by}
use Rattle.drf_tree.proofs.growth.Shape.{shape_from, shape_in}
use Rattle.drf_tree.proofs.growth.Tidy.{gone_tidy}
use Rattle.drf_tree.proofs.shape.Way.{equal, not_equal, shorter_above}
use Rattle.drf_tree.proofs.growth.With.{any_with, each_without, set_family_other, set_family_same}
use Rattle.drf_tree.proofs.growth.Wither.{withered}

none_in : {X : Type 0} (xs : List X) → length xs ≡ 0 → xs ≡ []
none_in [] none = refl
none_in (x ∷ xs) none = absurd (omega (arith, none))

-- if no client is below a node, no client's path has the node as a prefix
pub none_under : (node below : Path) (cs : List Ranked) → filter (λ c. begins_with c.path node) cs ≡ []
    → list_any (same_path (node ++ below)) (map (λ (c : Ranked). c.path) cs) ≡ true → ⊥
none_under node below [] none some = false≢true some
none_under node below (c ∷ cs) none some = elim (cases_Bool (begins_with c.path node)) [
  | inl here ↦
      let bad : length (c ∷ filter (λ c. begins_with c.path node) cs) ≡ 0 =
      ap length (subst (λ (b : Bool). cond b (c ∷ filter (λ c. begins_with c.path node) cs) (filter (λ c. begins_with c.path node) cs) ≡ []) here none) in
      omega (arith, bad)
  | inr past ↦
      let rest : filter (λ c. begins_with c.path node) cs ≡ [] =
      subst (λ (b : Bool). cond b (c ∷ filter (λ c. begins_with c.path node) cs) (filter (λ c. begins_with c.path node) cs) ≡ []) past none in
      elim (or_cases (same_path (node ++ below) c.path) (list_any (same_path (node ++ below)) (map (λ (c : Ranked). c.path) cs)) some) [
        | inl same ↦
            true≢false (sym (begins_by c.path node below (sym (same_path-true (node ++ below) c.path same))) ∙ past)
        | inr later ↦ none_under node below cs rest later
      ]
]

-- a node without clients has none below it
pub bare_clients : (content : Content) (tree : Tree) (node : ℕ) → IsTreeOf content tree → is_live tree.places.items node ≡ true
    → option_map_or (λ s. s.clients) (slice_get tree.sums.items node) 0 ≡ 0
    → clients_under content (path_at tree.places.items node) ≡ []
bare_clients content tree node of live none = by (slice_get tree.sums.items node) refl none
  where
    by : (o : Option Sum) → slice_get tree.sums.items node ≡ o → option_map_or (λ s. s.clients) o 0 ≡ 0
        → clients_under content (path_at tree.places.items node) ≡ []
    by None past zero_is =
        absurd (
        let within : node < length tree.sums.items = omega (arith, live_within tree.places.items node live, of.shape.sums_long) in
        let some : slice_get tree.sums.items node ≡ Some (get_or tree.sums.items node (record { held = []; count = 0; clients = 0; active = 0; weight = 0 })) =
        slice_get-get_or tree.sums.items node (record { held = []; count = 0; clients = 0; active = 0; weight = 0 }) within in
        let bad : None ≡ Some (get_or tree.sums.items node (record { held = []; count = 0; clients = 0; active = 0; weight = 0 })) = sym past ∙ some in
        cc)
    by (Some s) at zero_is =
        let is = of.sums node s live at in
        none_in (clients_under content (path_at tree.places.items node)) (sym is.clients ∙ zero_is)

module _ (old new : Tree) (shape : IsShapeOf old) (node parent : ℕ) (f : Family) (live : is_live old.places.items node ≡ true)
    (bare : is_bare_at old node ≡ true) (parent_is : parent ≡ parent_at old.places.items node)
    (less : IsGone node (children_at old.families.items parent) f.children.items)
    (places : new.places.items ≡ slice_set old.places.items node None)
    (families : new.families.items ≡ slice_set old.families.items parent f)
    (stale : new.marks.stale ≡ slice_set old.marks.stale node false) (sums : new.sums.items ≡ old.sums.items) where
  within : node < length old.places.items
  within = live_within old.places.items node live

  there : is_node old.places.items parent ≡ true
  there = ap (is_node old.places.items) parent_is ∙ (shape.kept node live).0

  below : parent < length old.families.items
  below = omega (arith, node_within old shape parent there, shape.families_long)

  gone : place_at new.places.items node ≡ None
  gone = ap (λ ps. place_at ps node) places ∙ get_or-set_same old.places.items node None None within

  rest : (i : ℕ) → i ≢ node → place_at new.places.items i ≡ place_at old.places.items i
  rest i other = ap (λ ps. place_at ps i) places ∙ get_or-set_other old.places.items node i None None other

  family_now : children_at new.families.items parent ≡ f.children.items
  family_now = ap (λ fs. children_at fs parent) families ∙ set_family_same old.families.items parent f below

  others : (i : ℕ) → i ≢ parent → children_at new.families.items i ≡ children_at old.families.items i
  others i other = ap (λ fs. children_at fs i) families ∙ set_family_other old.families.items parent i f other

  parts : ((option_map_or (λ s. s.clients) (slice_get old.sums.items node) 0 == 0) ≡ true)
      × ((length (children_at old.families.items node) == 0) ≡ true)
  parts =
      and_parts (option_map_or (λ s. s.clients) (slice_get old.sums.items node) 0 == 0)
      (length (children_at old.families.items node) == 0) bare

  kids_bare : children_at old.families.items node ≡ []
  kids_bare =
      none_in (children_at old.families.items node) (equal (length (children_at old.families.items node)) 0 parts.1)

  less_now : IsGone node (children_at old.families.items parent) (children_at new.families.items parent)
  less_now = subst (IsGone node (children_at old.families.items parent)) (sym family_now) less

  unmarked : slice_index_or new.marks.stale node false ≡ false
  unmarked =
      ap (λ flags. slice_index_or flags node false) stale
      ∙ get_or-set_same old.marks.stale node false false (omega (arith, within, shape.stale_long))

  flag_rest : (i : ℕ) → i ≢ node → slice_index_or new.marks.stale i false ≡ slice_index_or old.marks.stale i false
  flag_rest i other =
      ap (λ flags. slice_index_or flags i false) stale ∙ get_or-set_other old.marks.stale node i false false other

  pub wither_shape : IsShapeOf new
  wither_shape =
      shape_from new.places.items new.families.items new.marks.stale new.sums.items
      (omega (arith, ap length places, length-set old.places.items node None, shape.some))
      (omega (arith, ap length places, length-set old.places.items node None, ap length sums, shape.sums_long))
      (omega (arith, ap length places, length-set old.places.items node None, ap length families, length-set old.families.items parent f, shape.families_long))
      (omega (arith, ap length places, length-set old.places.items node None, ap length stale, length-set old.marks.stale node false, shape.stale_long))
      (withered (λ i. place_at old.places.items i) (λ i. place_at new.places.items i) (λ i. children_at old.families.items i)
      (λ i. children_at new.families.items i) (λ i. slice_index_or old.marks.stale i false) (λ i. slice_index_or new.marks.stale i false)
      (shape_in old.places.items old.families.items old.marks.stale old.sums.items shape) node parent live kids_bare (sym parent_is)
      gone rest less_now others unmarked flag_rest)

  other_node : (i : ℕ) → is_live new.places.items i ≡ true → i ≢ node
  other_node i is same = true≢false (sym is ∙ ap (is_live new.places.items) same ∙ ap (λ (o : Option Place). is_some o) gone)

  lived : (i : ℕ) → is_live new.places.items i ≡ true → is_live old.places.items i ≡ true
  lived i is = ap (λ (o : Option Place). is_some o) (sym (rest i (other_node i is))) ∙ is

  no_node : is_node new.places.items node ≡ false
  no_node =
      ap (λ (b : Bool). b || is_live new.places.items node) (not_equal node 0 (leaf_other old shape node live))
      ∙ ap (λ (o : Option Place). is_some o) gone

  path_now : (i : ℕ) → i ≢ node → path_at new.places.items i ≡ path_at old.places.items i
  path_now i other = ap (λ (o : Option Place). option_map_or (λ p. p.path) o []) (rest i other)

  module _ (content : Content) (of : IsTreeOf content old) where
    clients_bare : clients_under content (path_at old.places.items node) ≡ []
    clients_bare =
        bare_clients content old node of live
        (equal (option_map_or (λ s. s.clients) (slice_get old.sums.items node) 0) 0 parts.0)

    abbrev child : Child
    child = less.child

    -- the node was the child with its path
    path_is : path_at old.places.items node ≡ path_at old.places.items parent ++ child_name child ∷ []
    path_is =
        ap (path_at old.places.items) (sym less.node_is)
        ∙ (each_without child f.children.items (children_at old.families.items parent) less.gone (IsChildOf old.places.items parent)
        (shape.children parent)).0.path

    still_named : (part : Text) (beyond : Path)
        → list_any (same_path (path_at old.places.items parent ++ part ∷ beyond)) (map (λ (c : Ranked). c.path) content.clients) ≡ true
        → list_any (same_text part) (map child_name (children_at old.families.items parent)) ≡ true
        → list_any (same_text part) (map child_name f.children.items) ≡ true
    still_named part beyond client some =
        elim (or_cases (same_text part (child_name child)) (list_any (same_text part) (map child_name f.children.items))
        (sym (any_with child f.children.items (children_at old.families.items parent) less.gone child_name (same_text part)) ∙ some)) [
          | inl same ↦
              let name : part ≡ child_name child = (bytes_decides part (child_name child)).0 same in
              let whole : path_at old.places.items parent ++ part ∷ beyond ≡ path_at old.places.items node ++ beyond =
              ap (λ (t : Text). path_at old.places.items parent ++ t ∷ beyond) name
              ∙ sym (append_assoc (path_at old.places.items parent) (child_name child ∷ []) beyond)
              ∙ ap (λ (p : Path). p ++ beyond) (sym path_is) in
              absurd (none_under (path_at old.places.items node) beyond content.clients clients_bare
              (subst (λ (p : Path). list_any (same_path p) (map (λ (c : Ranked). c.path) content.clients) ≡ true) whole client))
          | inr past ↦ past
        ]

    complete_now : (i : ℕ) → is_node new.places.items i ≡ true → (part : Text) (beyond : Path)
        → list_any (same_path (path_at new.places.items i ++ part ∷ beyond)) (map (λ (c : Ranked). c.path) content.clients) ≡ true
        → list_any (same_text part) (map child_name (children_at new.families.items i)) ≡ true
    complete_now i is part beyond client =
        let other : i ≢ node = λ same. true≢false (sym is ∙ ap (is_node new.places.items) same ∙ no_node) in
        let was : is_node old.places.items i ≡ true = ap (λ (o : Option Place). (i == 0) || is_some o) (sym (rest i other)) ∙ is in
        let before : list_any (same_path (path_at old.places.items i ++ part ∷ beyond)) (map (λ (c : Ranked). c.path) content.clients) ≡ true =
        ap (λ (p : Path). list_any (same_path (p ++ part ∷ beyond)) (map (λ (c : Ranked). c.path) content.clients)) (sym (path_now i other)) ∙ client in
        let some = of.complete i was part beyond before in
        elim (cases_eq i parent) [
          | inl same ↦
              ap (λ (k : ℕ). list_any (same_text part) (map child_name (children_at new.families.items k))) same
              ∙ ap (λ (cs : List Child). list_any (same_text part) (map child_name cs)) family_now
              ∙ still_named part beyond
              (ap (λ (k : ℕ). list_any (same_path (path_at old.places.items k ++ part ∷ beyond)) (map (λ (c : Ranked). c.path) content.clients)) (sym same) ∙ before)
              (ap (λ (k : ℕ). list_any (same_text part) (map child_name (children_at old.families.items k))) (sym same) ∙ some)
          | inr past ↦ ap (λ (cs : List Child). list_any (same_text part) (map child_name cs)) (others i past) ∙ some
        ]

    -- the keys of the remaining children stay right
    right_stay : (i : ℕ) → AllByRecursion (IsMarkedOrRight content old.places.items old.marks.stale i) (children_at new.families.items i)
    right_stay i = elim (cases_eq i parent) [
      | inl same ↦
          subst (λ (k : ℕ). AllByRecursion (IsMarkedOrRight content old.places.items old.marks.stale k) (children_at new.families.items k)) (sym same)
          (subst (AllByRecursion (IsMarkedOrRight content old.places.items old.marks.stale parent)) (sym family_now)
          (each_without child f.children.items (children_at old.families.items parent) less.gone
          (IsMarkedOrRight content old.places.items old.marks.stale parent) (of.right parent)).1)
      | inr other ↦
          subst (AllByRecursion (IsMarkedOrRight content old.places.items old.marks.stale i)) (sym (others i other)) (of.right i)
    ]

    right_now : (i : ℕ) → AllByRecursion (IsMarkedOrRight content new.places.items new.marks.stale i) (children_at new.families.items i)
    right_now i = elim (cases_eq i node) [
      | inl here ↦
          subst (AllByRecursion (IsMarkedOrRight content new.places.items new.marks.stale i))
          (sym (ap (children_at new.families.items) here ∙ wither_shape.free node no_node)) tt
      | inr other ↦
          each_from_both (IsMarkedOrRight content old.places.items old.marks.stale i) (IsChildOf new.places.items i)
          (IsMarkedOrRight content new.places.items new.marks.stale i) (children_at new.families.items i)
          (λ c was is. elim was [
            | inl marked ↦ inl (flag_rest c.node (other_node c.node is.live) ∙ marked)
            | inr key ↦
                inr (subst (λ (p : Path). IsSameKey (key_by c.key) (key_of (standing_in content) p (child_name c))) (sym (path_now i other)) key)
          ]) (right_stay i) (wither_shape.children i)
    ]

    pub wither_tree : IsTreeOf content new
    wither_tree = record {
      paths = of.paths;
      distinct = of.distinct;
      shape = wither_shape;
      sums = λ i sum is at.
          subst (λ (p : Path). IsSumOf content p sum) (sym (path_now i (other_node i is)))
          (of.sums i sum (lived i is) (ap (λ ss. slice_get ss i) (sym sums) ∙ at));
      complete = complete_now;
      right = right_now;
    }

-- ---- a loop upwards that removes nodes

pub record IsPruning (old now : Tree) (leaf node : ℕ) : Type 0 where
  pub shape : IsShapeOf now
  pub there : is_node now.places.items node ≡ true
  pub tree : (content : Content) → IsTreeOf content old → IsTreeOf content now
  pub spends : Defers old.marks now.marks 0
  pub tidy : (content : Content) → IsTidyBut (path_at old.places.items leaf) content old.places.items
      → IsTidyBut (path_at now.places.items node) content now.places.items

pub prune_start : (tree : Tree) → IsShapeOf tree → (node : ℕ) → is_node tree.places.items node ≡ true → IsPruning tree tree node node
prune_start tree shape node there =
    record { shape = shape; there = there; tree = λ content of. of; spends = record { made = refl; work = omega arith }; tidy = λ content but. but }

-- if the loop is not at the root, it is at a node
pub prune_live : (old now : Tree) (leaf node : ℕ) → IsPruning old now leaf node → node ≢ 0 → is_live now.places.items node ≡ true
prune_live old now leaf node so other = elim (or_cases (node == 0) (is_live now.places.items node) so.there) [
  | inl root ↦ absurd (other (equal node 0 root))
  | inr live ↦ live
]

module _ (old now new : Tree) (leaf node parent : ℕ) (so : IsPruning old now leaf node) (other : node ≢ 0)
    (parent_is : parent ≡ parent_at now.places.items node) (shape : IsShapeOf new)
    (tree : (content : Content) → IsTreeOf content now → IsTreeOf content new)
    (places : new.places.items ≡ slice_set now.places.items node None)
    (spends : Defers now.marks new.marks 0) where
  shorter : length (path_at now.places.items node) ≡ length (path_at now.places.items parent) + 1
  shorter =
      shorter_above now.places.items now.families.items now.marks.stale now.sums.items so.shape node (prune_live old now leaf node so other)
      ∙ ap (λ (k : ℕ). length (path_at now.places.items k) + 1) (sym parent_is)

  past : parent ≢ node
  past same = omega (arith, shorter, ap (λ (k : ℕ). length (path_at now.places.items k)) same)

  as_it_was : place_at new.places.items parent ≡ place_at now.places.items parent
  as_it_was = ap (λ ps. place_at ps parent) places ∙ get_or-set_other now.places.items node parent None None past

  pub prune_step : IsPruning old new leaf parent
  prune_step = record {
    shape = shape;
    there =
        ap (λ (o : Option Place). (parent == 0) || is_some o) as_it_was ∙ ap (is_node now.places.items) parent_is
        ∙ (so.shape.kept node (prune_live old now leaf node so other)).0;
    tree = λ content of. tree content (so.tree content of);
    spends = defers-both so.spends spends;
    tidy = λ content but.
        gone_tidy now new so.shape node parent (prune_live old now leaf node so other) parent_is places content
        (live_within now.places.items node (prune_live old now leaf node so other)) past (so.tidy content but);
  }

  pub prune_less : length (path_at new.places.items parent) + 1 ≡ length (path_at now.places.items node)
  prune_less =
      ap (λ (o : Option Place). length (option_map_or (λ p. p.path) o []) + 1) as_it_was ∙ sym shorter
