use Rattle.std.proofs.Common.{◌≡◌}
use Rattle.drf_tree.proofs.Names.{ledger_content, Spends, marked_in, IsTreeOf}
use Rattle.drf_tree.proofs.tree.Tree.repair.Given as goal

abbrev pub invariant-loop-node : goal.invariant-loop-node
invariant-loop-node l = record {
  tree : IsTreeOf (ledger_content l.ledger) l.self;
  places : l.self.places ≡ l.fn.self.places;
  spends : Spends l.fn.self.marks l.self.marks 0;
}

abbrev pub decreases-loop-node : goal.decreases-loop-node
decreases-loop-node l = marked_in l.self.marks.stale
