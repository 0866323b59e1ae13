use Rattle.std.proofs.Common.{◌≡◌, ◌+◌, ◌≤◌, IsTrue}
use Rattle.drf_rows.specs.Consistent.{IsConsistent}
use Rattle.drf_rows.specs.Releases.{without_ended}
use Rattle.drf_rows.specs.Ended.{release_of}
use Rattle.drf_tables.specs.offers.Ended.{left_to_end}
use Rattle.drf_sorter.specs.Work.{debt}
use Rattle.drf_sorter.specs.Content.{IsSame}
use Rattle.drf_content.specs.Content.{content_of}
use Rattle.drf_core.specs.Working.{losers, nodes_of}
use Rattle.drf_core.proofs.cluster.Cluster.end.Given as goal

-- the offers and tasks that ended were refunded, and the other selected ones remain
abbrev pub invariant-loop-taken : goal.invariant-loop-taken
invariant-loop-taken g l = record {
  sorted : IsSame (g.S.Sorter.content l.self-inside.sorter) (content_of l.self-inside.tables.rows);
  work : IsTrue g.S.Sorter.COUNTED → debt (g.S.Sorter.work l.self-inside.sorter) + nodes_of (losers l.self-inside.tables.rows (release_of l.release))
      ≤ debt (g.S.Sorter.work l.initial.self-inside.sorter) + nodes_of (losers l.initial.self-inside.tables.rows (release_of l.release));
  later : without_ended l.self-inside.tables.rows (release_of l.release) ≡ without_ended l.initial.self-inside.tables.rows (release_of l.release);
  consistent : IsConsistent l.self-inside.tables.rows;
  made : (g.S.Sorter.work l.self-inside.sorter).made ≡ (g.S.Sorter.work l.initial.self-inside.sorter).made;
}

abbrev pub decreases-loop-taken : goal.decreases-loop-taken
decreases-loop-taken g l = left_to_end l.self-inside.tables.rows (release_of l.release)
