use Rattle.std.proofs.Common.{IsTrue, subst, List}
use Rattle.drf_rows.specs.declared.report.NodeLine.{NodeLine}
use Rattle.drf_row_laws.specs.Laws.{are_in_order}
use Rattle.drf_sorter.specs.Lines.{paths_of}
use Rattle.drf_sorter.proofs.LineLemmas.{in_order-rising}
use Rattle.drf_sorter.proofs.lines.NodeLines.into_vec.Goals as goal

pub returns-clause-in_order : goal.returns-clause-in_order
returns-clause-in_order c =
    subst (λ (lines : List NodeLine). IsTrue (are_in_order (paths_of lines))) c.self.view_is
    (in_order-rising c.self.inside.lines.items c.self.invariant)
