-- A loop from a leaf up to the root, which changes the sum of each node and can set its dirty flag.
use Rattle.std.specs.Option.{is_some}
use Rattle.std.proofs.Common.{refl, sym, ap, subst, ◌∙◌, inl, inr, arith, length-set, get_or-set_same, get_or-set_other, ◌≡◌, ◌≢◌, ◌≤◌, ◌<◌, ◌+◌, ℕ, Bool, true, false, ◌&&◌, ◌||◌, ◌==◌, List, [], ◌∷◌, ◌++◌, Option, Some, drop, length, slice_get, slice_index_or, slice_set}
use Rattle.std.proofs.lemmas.Bool.{true≢false, false≢true, and_parts, cases_eq, or_cases}
use Rattle.std.proofs.lemmas.Option.{slice_get_within, slice_get_read}
use Rattle.drf_tree.proofs.Names.{Path, begins_with, Family, Place, Sum, Tree, is_live, is_node, parent_at, path_at, IsShapeOf, OnWay, Defers, work_of, IsShape}
use Rattle.drf_sorter.specs.Work.{debt}
use Rattle.drf_tree.proofs.shape.Node.{live_within}
use Rattle.drf_tree.proofs.shape.Path.{begins_by, begins_itself, begins_long, begins_to, begins_trans}
use Rattle.drf_tree.proofs.shape.Slice.{get_set_same, get_set_other}
use Rattle.drf_tree.proofs.shape.Way.{above_of, equal, shorter_above, top_is}

-- node `i` is the leaf or a node above it
abbrev pub on_way : List (Option Place) → ℕ → ℕ → Bool
on_way places leaf i = is_live places i && begins_with (path_at places leaf) (path_at places i)

-- exactly the sums of the nodes above the leaf that have more than `depth` parts are changed
pub record AreChanged (places : List (Option Place)) (leaf depth : ℕ) (R : ℕ → Sum → Sum → Type 0) (old new : List Sum) : Type 0 where
  pub long : length new ≡ length old
  pub passed : (i : ℕ) (s t : Sum) → on_way places leaf i ≡ true → depth < length (path_at places i)
      → slice_get old i ≡ Some s → slice_get new i ≡ Some t → R i s t
  pub ahead : (i : ℕ) → length (path_at places i) ≤ depth → slice_get new i ≡ slice_get old i
  pub beside : (i : ℕ) → on_way places leaf i ≡ false → slice_get new i ≡ slice_get old i

-- the dirty flags of these nodes are set, and the others stay the same
pub record AreMarked (places : List (Option Place)) (leaf depth : ℕ) (old new : List Bool) : Type 0 where
  pub long : length new ≡ length old
  pub passed : (i : ℕ) → on_way places leaf i ≡ true → depth < length (path_at places i) → slice_index_or new i false ≡ true
  pub beside : (i : ℕ) → on_way places leaf i ≡ false → slice_index_or new i false ≡ slice_index_or old i false

-- the loop is at a node above the leaf, or at the root
pub record IsAt (places : List (Option Place)) (leaf node : ℕ) : Type 0 where
  pub there : is_node places node ≡ true
  pub way : begins_with (path_at places leaf) (path_at places node) ≡ true

both : (a b : Bool) → a ≡ true → b ≡ true → (a && b) ≡ true
both true b first second = second
both false b first second = absurd (false≢true first)

not_both : (a b : Bool) → b ≡ false → (a && b) ≡ false
not_both true b second = second
not_both false b second = refl

second_of : (a b : Bool) → b ≡ true → (a || b) ≡ true
second_of true b second = refl
second_of false b second = second

-- two nodes with the same number of parts above one leaf are the same
same_prefix : (a b : Path) (x y : Path) → length a ≡ length b → a ++ x ≡ b ++ y → a ≡ b
same_prefix [] [] x y long whole = refl
same_prefix [] (q ∷ b) x y long whole = absurd (omega arith)
same_prefix (p ∷ a) [] x y long whole = absurd (omega arith)
same_prefix (p ∷ a) (q ∷ b) x y long whole =
    let head : p ≡ q = cc in
    let tail : a ++ x ≡ b ++ y = cc in
    let rest : a ≡ b = same_prefix a b x y (omega arith) tail in
    λ i. head i ∷ rest i

pub live_on_way : (places : List (Option Place)) (leaf i : ℕ) → on_way places leaf i ≡ true
    → (is_live places i ≡ true) × (begins_with (path_at places leaf) (path_at places i) ≡ true)
live_on_way places leaf i on = and_parts (is_live places i) (begins_with (path_at places leaf) (path_at places i)) on

pub way_from : (places : List (Option Place)) (leaf i : ℕ) → is_live places i ≡ true
    → begins_with (path_at places leaf) (path_at places i) ≡ true → on_way places leaf i ≡ true
way_from places leaf i live begins =
    both (is_live places i) (begins_with (path_at places leaf) (path_at places i)) live begins

pub beside_from : (places : List (Option Place)) (leaf i : ℕ)
    → begins_with (path_at places leaf) (path_at places i) ≡ false → on_way places leaf i ≡ false
beside_from places leaf i other = not_both (is_live places i) (begins_with (path_at places leaf) (path_at places i)) other

pub node_from_live : (places : List (Option Place)) (i : ℕ) → is_live places i ≡ true → is_node places i ≡ true
node_from_live places i live = second_of (i == 0) (is_live places i) live

module _ (places : List (Option Place)) (families : List Family) (stale : List Bool) (sums : List Sum)
    (shape : IsShape places families stale sums) (leaf : ℕ) where
  pub one_so_deep : (i j : ℕ) → on_way places leaf i ≡ true → on_way places leaf j ≡ true
      → length (path_at places i) ≡ length (path_at places j) → i ≡ j
  one_so_deep i j on_i on_j long =
      let a = live_on_way places leaf i on_i in
      let b = live_on_way places leaf j on_j in
      let p : Path = path_at places leaf in
      shape.distinct i j a.0 b.0
      (same_prefix (path_at places i) (path_at places j) (drop (length (path_at places i)) p) (drop (length (path_at places j)) p) long
      (sym (begins_to p (path_at places i) a.1) ∙ begins_to p (path_at places j) b.1))

  pub at_leaf : is_live places leaf ≡ true → IsAt places leaf leaf
  at_leaf live = record { there = node_from_live places leaf live; way = begins_itself (path_at places leaf) }

  -- at first no node is changed
  pub changed_none : (R : ℕ → Sum → Sum → Type 0) (now : List Sum) → AreChanged places leaf (length (path_at places leaf)) R now now
  changed_none R now = record {
    long = refl;
    passed = λ i s t on deep old new.
        absurd (omega (arith, deep, begins_long (path_at places leaf) (path_at places i) (live_on_way places leaf i on).1));
    ahead = λ i short. refl;
    beside = λ i off. refl;
  }

  pub marked_none : (now : List Bool) → AreMarked places leaf (length (path_at places leaf)) now now
  marked_none now = record {
    long = refl;
    passed = λ i on deep.
        absurd (omega (arith, deep, begins_long (path_at places leaf) (path_at places i) (live_on_way places leaf i on).1));
    beside = λ i off. refl;
  }

  -- one more node is changed
  module _ (node d : ℕ) (on : on_way places leaf node ≡ true) (deep : length (path_at places node) ≡ d + 1) where
    not_ahead : (i : ℕ) → length (path_at places i) ≤ d → i ≢ node
    not_ahead i short same = omega (arith, short, deep, ap (λ (k : ℕ). length (path_at places k)) same)

    not_beside : (i : ℕ) → on_way places leaf i ≡ false → i ≢ node
    not_beside i off same = true≢false (sym on ∙ ap (on_way places leaf) (sym same) ∙ off)

    deeper : (i : ℕ) → on_way places leaf i ≡ true → d < length (path_at places i) → i ≢ node
        → length (path_at places node) < length (path_at places i)
    deeper i on_i long other = elim (cases_eq (length (path_at places i)) (length (path_at places node))) [
      | inl same ↦ absurd (other (one_so_deep i node on_i on same))
      | inr differ ↦ omega (arith, differ, long, deep)
    ]

    pub changed_step : (R : ℕ → Sum → Sum → Type 0) (old mid : List Sum) (s t : Sum)
        → AreChanged places leaf (length (path_at places node)) R old mid → slice_get mid node ≡ Some s → R node s t
        → AreChanged places leaf d R old (slice_set mid node t)
    changed_step R old mid s t so at moved =
        let within : node < length mid = slice_get_within mid node s at in
        record {
          long = length-set mid node t ∙ so.long;
          passed = passed_now within;
          ahead = λ i short.
              get_set_other mid node i t (not_ahead i short)
              ∙ so.ahead i (omega (arith, short, deep));
          beside = λ i off. get_set_other mid node i t (not_beside i off) ∙ so.beside i off;
        }
      where
        passed_now : node < length mid → (i : ℕ) (a b : Sum) → on_way places leaf i ≡ true → d < length (path_at places i)
            → slice_get old i ≡ Some a → slice_get (slice_set mid node t) i ≡ Some b → R i a b
        passed_now within i a b on_i long before after = elim (cases_eq i node) [
          | inl same ↦
              let was : slice_get mid node ≡ Some a =
              so.ahead node (omega arith) ∙ ap (slice_get old) (sym same) ∙ before in
              let first : s ≡ a = cc in
              let put : slice_get (slice_set mid node t) node ≡ Some t = get_set_same mid node t within in
              let is : slice_get (slice_set mid node t) node ≡ Some b =
              ap (slice_get (slice_set mid node t)) (sym same) ∙ after in
              let second : t ≡ b = cc in
              subst (λ (k : ℕ). R k a b) (sym same)
              (subst (λ (x : Sum). R node x b) first (subst (λ (y : Sum). R node s y) second moved))
          | inr other ↦
              so.passed i a b on_i (deeper i on_i long other) before
              (sym (get_set_other mid node i t other) ∙ after)
        ]

    pub marked_step : (old mid : List Bool) → node < length mid
        → AreMarked places leaf (length (path_at places node)) old mid
        → AreMarked places leaf d old (slice_set mid node true)
    marked_step old mid within so = record {
      long = length-set mid node true ∙ so.long;
      passed = λ i on_i long. elim (cases_eq i node) [
        | inl same ↦
            ap (λ (k : ℕ). slice_index_or (slice_set mid node true) k false) same
            ∙ get_or-set_same mid node true false within
        | inr other ↦
            get_or-set_other mid node i true false other ∙ so.passed i on_i (deeper i on_i long other)
      ];
      beside = λ i off. get_or-set_other mid node i true false (not_beside i off) ∙ so.beside i off;
    }

  -- the loop continues at the parent
  pub at_above : (node : ℕ) → is_live places node ≡ true → IsAt places leaf node → IsAt places leaf (parent_at places node)
  at_above node live at =
      let longer = above_of places families stale sums shape node live in
      record {
        there = (shape.kept node live).0;
        way =
            begins_trans (path_at places leaf) (path_at places node) (path_at places (parent_at places node)) at.way
            (begins_by (path_at places node) (path_at places (parent_at places node)) (longer.part ∷ []) longer.joined);
      }

  -- if the loop is not at the root, it is at a node
  pub live_at : (node : ℕ) → IsAt places leaf node → node ≢ 0 → is_live places node ≡ true
  live_at node at other = elim (or_cases (node == 0) (is_live places node) at.there) [
    | inl root ↦ absurd (other (equal node 0 root))
    | inr live ↦ live
  ]

  pub on_at : (node : ℕ) → IsAt places leaf node → node ≢ 0 → on_way places leaf node ≡ true
  on_at node at other = way_from places leaf node (live_at node at other) at.way

  -- a node has at least one part, so all nodes are changed at the root
  pub some_part : (i : ℕ) → is_live places i ≡ true → 0 < length (path_at places i)
  some_part i live = omega (arith, shorter_above places families stale sums shape i live)

-- the loop is at a node
pub record IsClimbing (old now : Tree) (leaf node : ℕ) (R : ℕ → Sum → Sum → Type 0) : Type 0 where
  pub at : IsAt old.places.items leaf node
  pub places : now.places ≡ old.places
  pub families : now.families ≡ old.families
  pub sums : AreChanged old.places.items leaf (length (path_at old.places.items node)) R old.sums.items now.sums.items

module _ (old now : Tree) (shape : IsShapeOf old) (leaf node : ℕ) (R : ℕ → Sum → Sum → Type 0) where
  pub climb_start : is_live old.places.items leaf ≡ true → IsClimbing old old leaf leaf R
  climb_start live = record {
    at = at_leaf old.places.items old.families.items old.marks.stale old.sums.items shape leaf live;
    places = refl;
    families = refl;
    sums = changed_none old.places.items old.families.items old.marks.stale old.sums.items shape leaf R old.sums.items;
  }

  module _ (so : IsClimbing old now leaf node R) (other : node ≢ 0) where
    pub climb_live : is_live old.places.items node ≡ true
    climb_live = live_at old.places.items old.families.items old.marks.stale old.sums.items shape leaf node so.at other

    pub climb_on : on_way old.places.items leaf node ≡ true
    climb_on = on_at old.places.items old.families.items old.marks.stale old.sums.items shape leaf node so.at other

    pub climb_within : node < length now.sums.items
    climb_within = omega (arith, live_within old.places.items node climb_live, so.sums.long, shape.sums_long)

    -- the sum at the node is still what it was at first
    pub climb_sum : (s : Sum) → s ≡ slice_index_or now.sums.items node s → slice_get now.sums.items node ≡ Some s
    climb_sum s is = slice_get_read now.sums.items (length now.sums.items) node s refl climb_within is

    pub climb_was : (s : Sum) → s ≡ slice_index_or now.sums.items node s → slice_get old.sums.items node ≡ Some s
    climb_was s is = sym (so.sums.ahead node (omega arith)) ∙ climb_sum s is

    -- what holds of each sum above the leaf holds of the node's
    pub climb_holds : (P : Sum → Type 0) → OnWay old leaf P → (s : Sum) → s ≡ slice_index_or now.sums.items node s → P s
    climb_holds P each s is = each node s climb_on (climb_was s is)

    -- the parent, as the places are unchanged
    pub climb_above : (above : ℕ) → above ≡ parent_at now.places.items node → above ≡ parent_at old.places.items node
    climb_above above is = is ∙ (λ i. parent_at (so.places i).items node)

    pub climb_less : length (path_at old.places.items (parent_at old.places.items node)) + 1 ≡ length (path_at old.places.items node)
    climb_less = sym (shorter_above old.places.items old.families.items old.marks.stale old.sums.items shape node climb_live)

    pub climb_falls : (above : ℕ) → above ≡ parent_at now.places.items node
        → length (path_at old.places.items above) < length (path_at old.places.items node)
    climb_falls above is = rw (climb_above above is) (omega (arith, climb_less))

    pub climb_step : (new : Tree) (above : ℕ) (s t : Sum) → above ≡ parent_at old.places.items node
        → s ≡ slice_index_or now.sums.items node s → R node s t
        → new.places ≡ now.places → new.families ≡ now.families → new.sums.items ≡ slice_set now.sums.items node t
        → IsClimbing old new leaf above R
    climb_step new above s t above_is is moved places families sums =
        subst (λ (k : ℕ). IsClimbing old new leaf k R) (sym above_is)
        record {
          at = at_above old.places.items old.families.items old.marks.stale old.sums.items shape leaf node climb_live so.at;
          places = places ∙ so.places;
          families = families ∙ so.families;
          sums =
              subst (λ (xs : List Sum). AreChanged old.places.items leaf (length (path_at old.places.items (parent_at old.places.items node))) R old.sums.items xs)
              (sym sums)
              (changed_step old.places.items old.families.items old.marks.stale old.sums.items shape leaf node
              (length (path_at old.places.items (parent_at old.places.items node))) climb_on (sym climb_less) R
              old.sums.items now.sums.items s t so.sums (climb_sum s is) moved);
        }

  -- the loop is at the root
  pub climb_end : IsClimbing old now leaf node R → node ≡ 0 → AreChanged old.places.items leaf 0 R old.sums.items now.sums.items
  climb_end so root =
      let none : length (path_at old.places.items node) ≡ 0 =
      ap (λ (k : ℕ). length (path_at old.places.items k)) root
      ∙ ap length (top_is old.places.items old.families.items old.marks.stale old.sums.items shape) in
      subst (λ (k : ℕ). AreChanged old.places.items leaf k R old.sums.items now.sums.items) none so.sums

-- the loop is at a node, and sets dirty flags
pub record IsMarking (old now : Tree) (leaf node : ℕ) : Type 0 where
  pub marks : AreMarked old.places.items leaf (length (path_at old.places.items node)) old.marks.stale now.marks.stale
  pub work : debt (work_of now.marks) + length (path_at old.places.items node)
      ≤ debt (work_of old.marks) + length (path_at old.places.items leaf)
  pub made : now.marks.made ≡ old.marks.made

module _ (old now : Tree) (shape : IsShapeOf old) (leaf node : ℕ) (R : ℕ → Sum → Sum → Type 0) where
  pub marking_start : IsMarking old old leaf leaf
  marking_start = record {
    marks = marked_none old.places.items old.families.items old.marks.stale old.sums.items shape leaf old.marks.stale;
    work = omega arith;
    made = refl;
  }

  pub marking_within : IsClimbing old now leaf node R → node ≢ 0 → IsMarking old now leaf node → node < length now.marks.stale
  marking_within so other marking =
      omega (arith, live_within old.places.items node (climb_live old now shape leaf node R so other), marking.marks.long, shape.stale_long)

  pub marking_step : IsClimbing old now leaf node R → node ≢ 0 → IsMarking old now leaf node → (new : Tree) (above : ℕ)
      → above ≡ parent_at old.places.items node → new.marks ≡ record now.marks { stale = slice_set now.marks.stale node true }
      → Defers now.marks new.marks 1 → IsMarking old new leaf above
  marking_step so other marking new above above_is marks spends =
      let less = climb_less old now shape leaf node R so other in
      let work = spends.work in
      let work_so = marking.work in
      subst (λ (k : ℕ). IsMarking old new leaf k) (sym above_is)
      record {
        marks =
            subst (λ (flags : List Bool). AreMarked old.places.items leaf (length (path_at old.places.items (parent_at old.places.items node))) old.marks.stale flags)
            (sym (λ i. (marks i).stale))
            (marked_step old.places.items old.families.items old.marks.stale old.sums.items shape leaf node
            (length (path_at old.places.items (parent_at old.places.items node))) (climb_on old now shape leaf node R so other) (sym less)
            old.marks.stale now.marks.stale (marking_within so other marking) marking.marks);
        work = omega (arith, less, work, work_so);
        made = spends.made ∙ marking.made;
      }

  pub marking_end : IsMarking old now leaf node → node ≡ 0 → AreMarked old.places.items leaf 0 old.marks.stale now.marks.stale
  marking_end marking root =
      let none : length (path_at old.places.items node) ≡ 0 =
      ap (λ (k : ℕ). length (path_at old.places.items k)) root
      ∙ ap length (top_is old.places.items old.families.items old.marks.stale old.sums.items shape) in
      subst (λ (k : ℕ). AreMarked old.places.items leaf k old.marks.stale now.marks.stale) none marking.marks

-- a node is not the root
pub leaf_other : (tree : Tree) → IsShapeOf tree → (leaf : ℕ) → is_live tree.places.items leaf ≡ true → leaf ≢ 0
leaf_other tree shape leaf live root =
    true≢false (sym live ∙ ap (is_live tree.places.items) root ∙ ap (λ (p : Option Place). is_some p) shape.root)
