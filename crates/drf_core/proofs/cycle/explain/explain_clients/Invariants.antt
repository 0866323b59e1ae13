use Rattle.std.proofs.Common.{◌≡◌, length}
use Rattle.drf_tables.specs.cycle.Drafts.{with_offers}
use Rattle.drf_core.specs.cycle.Drafting.{IsTurn}
use Rattle.drf_core.proofs.drafting.Told.{AreReported}
use Rattle.drf_core.proofs.drafting.Turn.{AreWaiting}
use Rattle.drf_core.proofs.cycle.explain.explain_clients.Given as goal

-- trying and reporting the clients in the queue completes what trying and reporting all clients gives
abbrev pub invariant-loop-drafts : goal.invariant-loop-drafts
invariant-loop-drafts g l = record {
  turn : IsTurn (g.S.Sorter.content l.sorter) l.tables l.drafts l.place l.free (g.S.Sorter.queue l.sorter);
  waits : AreWaiting l.tables.rows l.place (with_offers l.tables.rows l.initial.drafts.offers.items)
      (with_offers l.tables.rows l.drafts.offers.items) (g.S.Sorter.queue l.sorter);
  reported : AreReported l.each l.tables.rows l.place (with_offers l.tables.rows l.initial.drafts.offers.items)
      (with_offers l.tables.rows l.drafts.offers.items) (g.S.Sorter.queue l.sorter) l.initial.findings.items l.findings.items;
  waiting : l.waiting ≡ length (g.S.Sorter.queue l.sorter);
}

abbrev pub decreases-loop-drafts : goal.decreases-loop-drafts
decreases-loop-drafts g l = length (g.S.Sorter.queue l.sorter)
