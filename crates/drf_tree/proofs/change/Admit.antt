-- Adding a client to the sums.
use Rattle.std.proofs.Common.{refl, sym, ap, subst, ◌∙◌, inl, inr, arith, ◌≡◌, ◌+◌, ℕ, true, false, Some, length, slice_index_or}
use Rattle.std.proofs.lemmas.Bool.{cases_Bool}
use Rattle.drf_tree.proofs.Names.{Text, Path, begins_with, Content, has_client, with_client, Sum, Tree, client_at, is_live, AreRight, IsTreeOf}
use Rattle.drf_tree.proofs.change.Climb.{IsClimbing, climb_end}
use Rattle.drf_tree.proofs.shape.Complete.{complete_with, distinct_with, paths_with}
use Rattle.drf_tree.proofs.sums.Move.{IsMoved, added_below, added_beside, none, of_newcomer, total_under}
use Rattle.drf_tree.proofs.change.Tree.{right_kept, shape_again, sums_after, tree_from}

pub is_admitted : (s : Sum) → IsMoved none of_newcomer s (record s { clients = s.clients + 1; active = s.active + 1 })
is_admitted s = record { held = λ label. refl; count = refl; clients = omega arith; active = omega arith; weight = refl }

pub admitted : (content : Content) (path : Path) (old now : Tree) (leaf node : ℕ) → IsTreeOf content old
    → is_live old.places.items leaf ≡ true → client_at old.places.items leaf ≡ Some path → has_client content path ≡ false
    → IsClimbing old now leaf node (λ i. IsMoved none of_newcomer) → now.marks ≡ old.marks → node ≡ 0
    → IsTreeOf (with_client content path) now
admitted content path old now leaf node tree live at none_yet so marks root =
    let changed : Content = with_client content path in
    let is = tree.shape.others leaf path at in
    let done = climb_end old now tree.shape leaf node (λ i. IsMoved none of_newcomer) so root in
    let stale : now.marks.stale ≡ old.marks.stale = λ i. (marks i).stale in
    tree_from changed old now so.places so.families
    (paths_with content path is.1 tree.paths) (distinct_with content path none_yet tree.distinct)
    (shape_again old.places.items old.families.items old.marks.stale now.marks.stale old.sums.items now.sums.items tree.shape
    (λ i. length (stale i)) done.long
    (λ i marked. tree.shape.unmarked i (ap (λ flags. slice_index_or flags i false) (sym stale) ∙ marked)))
    (sums_after content changed old.places.items old.families.items old.marks.stale old.sums.items tree.shape leaf none of_newcomer
    (λ p begins. added_below content path p (ap (λ q. begins_with q p) (sym is.0) ∙ begins))
    (λ p other. added_beside content path p (ap (λ q. begins_with q p) (sym is.0) ∙ other))
    now.sums.items done tree.sums)
    (complete_with old.places.items old.families.items old.marks.stale old.sums.items tree.shape content path leaf live is.0 tree.complete)
    (subst (AreRight changed old.places.items old.families.items) (sym stale)
    (right_kept content changed old.places.items old.families.items old.marks.stale old.sums.items tree.shape held count refl refl tree.right))
  where
    held : (p : Path) (label : Text) → total_under (λ c. c.held label) (with_client content path) p ≡ total_under (λ c. c.held label) content p
    held p label = elim (cases_Bool (begins_with path p)) [
      | inl begins ↦ omega (arith, (added_below content path p begins).held label)
      | inr other ↦ omega (arith, (added_beside content path p other).held label)
    ]

    count : (p : Path) → total_under (λ c. c.count) (with_client content path) p ≡ total_under (λ c. c.count) content p
    count p = elim (cases_Bool (begins_with path p)) [
      | inl begins ↦ omega (arith, (added_below content path p begins).count)
      | inr other ↦ omega (arith, (added_beside content path p other).count)
    ]
