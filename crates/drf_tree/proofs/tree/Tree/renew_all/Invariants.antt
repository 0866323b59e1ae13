use Rattle.std.proofs.Common.{◌≡◌, length}
use Rattle.drf_tree.proofs.Names.{ledger_content, Spends, IsTreeOf}
use Rattle.drf_tree.proofs.tree.Tree.renew_all.Given as goal

abbrev pub invariant-loop-node : goal.invariant-loop-node
invariant-loop-node l = record {
  tree : IsTreeOf (ledger_content l.ledger) l.self;
  places : l.self.places ≡ l.fn.self.places;
  long : length l.self.families.items ≡ length l.fn.self.families.items;
  spends : Spends l.fn.self.marks l.self.marks 0;
}
