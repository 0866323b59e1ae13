-- The tree after a change of one client.
use Rattle.std.specs.List.{AllByRecursion, IsDistinct, list_any}
use Rattle.std.proofs.Common.{refl, sym, ap, subst, ◌∙◌, inl, inr, arith, ◌≡◌, ℕ, Bool, true, false, List, Some, length, map, slice_index_or}
use Rattle.std.proofs.lemmas.Bool.{cases_Bool}
use Rattle.drf_tree.proofs.Names.{Text, Path, IsClientPath, begins_with, same_path, Content, Ranked, has_client, with_change, Tree, IsShapeOf, client_at, is_live, path_at, AreRight, IsComplete, IsTreeOf}
use Rattle.drf_tree.proofs.change.Climb.{AreChanged, AreMarked, live_on_way, on_way}
use Rattle.drf_tree.proofs.sums.Content.{paths_stay}
use Rattle.drf_tree.proofs.sums.Move.{Amounts, AreMoved, IsChange, IsMoved, changed_below, changed_beside, none}
use Rattle.drf_tree.proofs.change.Tree.{right_marked, right_kept, shape_again, sums_after, tree_from}

-- the children are complete if the clients have the same paths
pub complete_again : (content changed : Content) (tree : Tree)
    → map (λ (c : Ranked). c.path) changed.clients ≡ map (λ (c : Ranked). c.path) content.clients
    → IsComplete content tree.places.items tree.families.items → IsComplete changed tree.places.items tree.families.items
complete_again content changed tree paths complete i node part below some =
    complete i node part below (ap (list_any (same_path _)) (sym paths) ∙ some)

-- a dirty node above the leaf is live, and so is a node that was dirty before
pub unmarked_after : (old : Tree) (leaf : ℕ) (now : List Bool) → IsShapeOf old → AreMarked old.places.items leaf 0 old.marks.stale now
    → (i : ℕ) → slice_index_or now i false ≡ true → is_live old.places.items i ≡ true
unmarked_after old leaf now shape so i marked = elim (cases_Bool (on_way old.places.items leaf i)) [
  | inl on ↦ (live_on_way old.places.items leaf i on).0
  | inr off ↦ shape.unmarked i (sym (so.beside i off) ∙ marked)
]

module _ (content : Content) (path : Path) (change : Ranked → Ranked) (keeps : (c : Ranked) → (change c).path ≡ c.path)
    (old now : Tree) (leaf : ℕ) (less more : Amounts) (tree : IsTreeOf content old)
    (at : client_at old.places.items leaf ≡ Some path) (has : has_client content path ≡ true) (as_many : less.clients ≡ more.clients)
    (each : AllByRecursion (λ c. same_path c.path path ≡ true → IsChange less more c (change c)) content.clients) where
  leaf_is : path_at old.places.items leaf ≡ path
  leaf_is = (tree.shape.others leaf path at).0

  pub moved_on : (p : Path) → begins_with (path_at old.places.items leaf) p ≡ true
      → AreMoved less more content (with_change content path change) p
  moved_on p begins =
      changed_below content path p change keeps less more as_many (ap (λ q. begins_with q p) (sym leaf_is) ∙ begins)
      tree.distinct has each

  pub moved_off : (p : Path) → begins_with (path_at old.places.items leaf) p ≡ false
      → AreMoved none none content (with_change content path change) p
  moved_off p other = changed_beside content path p change keeps (ap (λ q. begins_with q p) (sym leaf_is) ∙ other)

  same_paths : map (λ (c : Ranked). c.path) (with_change content path change).clients ≡ map (λ (c : Ranked). c.path) content.clients
  same_paths = paths_stay path change keeps content.clients

  -- each node above the leaf is dirty
  pub changed_marked : now.places ≡ old.places → now.families ≡ old.families
      → AreChanged old.places.items leaf 0 (λ i. IsMoved less more) old.sums.items now.sums.items
      → AreMarked old.places.items leaf 0 old.marks.stale now.marks.stale
      → IsTreeOf (with_change content path change) now
  changed_marked places families sums marks =
      tree_from (with_change content path change) old now places families
      (subst (AllByRecursion IsClientPath) (sym same_paths) tree.paths)
      (subst (IsDistinct same_path) (sym same_paths) tree.distinct)
      (shape_again old.places.items old.families.items old.marks.stale now.marks.stale old.sums.items now.sums.items tree.shape
      marks.long sums.long (unmarked_after old leaf now.marks.stale tree.shape marks))
      (sums_after content (with_change content path change) old.places.items old.families.items old.marks.stale old.sums.items tree.shape
      leaf less more moved_on moved_off now.sums.items sums tree.sums)
      (complete_again content (with_change content path change) old same_paths tree.complete)
      (right_marked content (with_change content path change) old.places.items old.families.items old.marks.stale old.sums.items tree.shape
      leaf less more moved_on moved_off now.marks.stale marks refl tree.right)

  -- no dirty flag and no key changes
  pub changed_kept : now.places ≡ old.places → now.families ≡ old.families → now.marks ≡ old.marks
      → ((label : Text) → less.held label ≡ more.held label) → less.count ≡ more.count
      → AreChanged old.places.items leaf 0 (λ i. IsMoved less more) old.sums.items now.sums.items
      → IsTreeOf (with_change content path change) now
  changed_kept places families marks held count sums =
      let stale : now.marks.stale ≡ old.marks.stale = λ i. (marks i).stale in
      tree_from (with_change content path change) old now places families
      (subst (AllByRecursion IsClientPath) (sym same_paths) tree.paths)
      (subst (IsDistinct same_path) (sym same_paths) tree.distinct)
      (shape_again old.places.items old.families.items old.marks.stale now.marks.stale old.sums.items now.sums.items tree.shape
      (λ i. length (stale i)) sums.long
      (λ i marked. tree.shape.unmarked i (ap (λ flags. slice_index_or flags i false) (sym stale) ∙ marked)))
      (sums_after content (with_change content path change) old.places.items old.families.items old.marks.stale old.sums.items tree.shape
      leaf less more moved_on moved_off now.sums.items sums tree.sums)
      (complete_again content (with_change content path change) old same_paths tree.complete)
      (subst (AreRight (with_change content path change) old.places.items old.families.items) (sym stale)
      (right_kept content (with_change content path change) old.places.items old.families.items old.marks.stale old.sums.items tree.shape
      (λ p label. elim (cases_Bool (begins_with (path_at old.places.items leaf) p)) [
        | inl begins ↦ omega (arith, (moved_on p begins).held label, held label)
        | inr other ↦ omega (arith, (moved_off p other).held label)
      ])
      (λ p. elim (cases_Bool (begins_with (path_at old.places.items leaf) p)) [
        | inl begins ↦ omega (arith, (moved_on p begins).count, count)
        | inr other ↦ omega (arith, (moved_off p other).count)
      ])
      refl refl tree.right))
