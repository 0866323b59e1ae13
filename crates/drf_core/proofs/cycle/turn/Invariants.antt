use Rattle.std.proofs.Common.{◌≤◌, length}
use Rattle.drf_tables.specs.cycle.Drafts.{with_offers}
use Rattle.drf_core.specs.cycle.Drafting.{IsTurn}
use Rattle.drf_core.specs.Working.{AddsDrafts}
use Rattle.drf_core.proofs.drafting.Turn.{AreWaiting}
use Rattle.drf_core.proofs.cycle.turn.Given as goal

-- trying the clients in the queue completes what trying all clients gives
abbrev pub invariant-loop-sorter : goal.invariant-loop-sorter
invariant-loop-sorter g l = record {
  turn : IsTurn (g.S.Sorter.content l.sorter) l.tables l.drafts l.place l.free (g.S.Sorter.queue l.sorter);
  waiting : AreWaiting l.tables.rows l.place (with_offers l.tables.rows l.initial.drafts.offers.items)
      (with_offers l.tables.rows l.drafts.offers.items) (g.S.Sorter.queue l.sorter);
  work : AddsDrafts g.S.Sorter.COUNTED (g.S.Sorter.work l.initial.sorter) (g.S.Sorter.work l.sorter) l.initial.drafts.offers.items l.drafts.offers.items;
  made : (g.S.Sorter.work l.initial.sorter).made ≤ (g.S.Sorter.work l.sorter).made;
}

abbrev pub decreases-loop-sorter : goal.decreases-loop-sorter
decreases-loop-sorter g l = length (g.S.Sorter.queue l.sorter)
