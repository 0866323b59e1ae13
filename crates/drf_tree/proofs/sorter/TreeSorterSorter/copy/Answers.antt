use Rattle.std.specs.Prelude.{List, Option}
use Rattle.std.proofs.Common.{subst, sym}
use Rattle.drf_sorter.specs.Content.{Content}
use Rattle.drf_tree.specs.Ledger.{ledger_content}
use Rattle.drf_tree.specs.declared.node.Place.{Place}
use Rattle.drf_tree.specs.Queue.{AreFrames, IsSettled}
use Rattle.drf_tree.specs.Tree.{IsTreeOf}
use Rattle.drf_tree.proofs.shape.Copy.{settled_copied}
use Rattle.drf_tree.proofs.walk.Kept.{total_counts}
use Rattle.drf_tree.specs.Tidy.{IsTidy}
use Rattle.drf_tree.proofs.sorter.TreeSorterSorter.copy.Goals as goal

pub invariant_of-result : goal.invariant_of-result
invariant_of-result c =
    let tree = c.in_ok-copy-2.field-0 in
    let old = c.self.inside.tree in
    let content = ledger_content c.in_ok-copy.field-0 in
    let frames = c.in_ok-copy-3.field-0.frames.items in
    let now : IsTreeOf content old = subst (λ (k : Content). IsTreeOf k old) (sym c.in_ok-copy.ensures) c.self.invariant.of_ledger in
    let settled : IsSettled content old.places.items old.families.items frames =
    subst (IsSettled content old.places.items old.families.items) (sym c.in_ok-copy-3.ensures)
    (subst (λ (k : Content). IsSettled k old.places.items old.families.items c.self.inside.walk.frames.items)
    (sym c.in_ok-copy.ensures) c.self.invariant.settled) in
    record {
      of_ledger = c.in_ok-copy-2.ensures.tree content now;
      free = total_counts content tree;
      tidy = subst (λ (ps : List (Option Place)). IsTidy content ps) (sym c.in_ok-copy-2.ensures.places)
          (subst (λ (k : Content). IsTidy k old.places.items) (sym c.in_ok-copy.ensures) c.self.invariant.tidy);
      frames = subst (λ (ps : List (Option Place)). AreFrames ps frames) (sym c.in_ok-copy-2.ensures.places)
          (subst (AreFrames old.places.items) (sym c.in_ok-copy-3.ensures) c.self.invariant.frames);
      settled = subst (λ (ps : List (Option Place)). IsSettled content ps tree.families.items frames) (sym c.in_ok-copy-2.ensures.places)
          (settled_copied content old.places.items old.families.items tree.families.items c.in_ok-copy-2.ensures.families frames settled);
    }
