use Rattle.drf_tree.specs.Marks.{Spends}
use Rattle.drf_tree.proofs.keys.Stale.{AreStepped}
use Rattle.drf_tree.proofs.family.renew_keys.Given as goal

-- the children so far are fresh, and the others and their dirty flags are unchanged
abbrev pub invariant-loop-child : goal.invariant-loop-child
invariant-loop-child l = record {
  stepped : AreStepped l.total l.sums l.fn.marks.stale l.marks.stale l.fn.children l.children l.child-index;
  spends : Spends l.fn.marks l.marks 0;
}
