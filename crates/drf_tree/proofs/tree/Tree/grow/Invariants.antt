use Rattle.drf_tree.specs.Ledger.{ledger_content}
use Rattle.drf_tree.proofs.growth.Grow.{IsGrowing}
use Rattle.drf_tree.proofs.tree.Tree.grow.Given as goal

abbrev pub invariant-loop-i : goal.invariant-loop-i
invariant-loop-i l = IsGrowing (ledger_content l.ledger) l.fn.self l.self l.path l.node l.i
