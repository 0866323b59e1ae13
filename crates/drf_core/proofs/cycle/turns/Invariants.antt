use Rattle.std.proofs.Common.{◌≡◌, ◌≤◌, drop}
use Rattle.std.specs.Prelude.{filter}
use Rattle.drf_rows.specs.Cycle.{turns}
use Rattle.drf_tables.specs.cycle.Drafts.{with_offers}
use Rattle.drf_core.specs.cycle.Drafting.{IsCycleAt, turns_of}
use Rattle.drf_core.specs.Working.{AddsDrafts}
use Rattle.drf_core.proofs.cycle.turns.Given as goal

-- the agents before this one had their turns, and the others follow
abbrev pub invariant-loop-place : goal.invariant-loop-place
invariant-loop-place g l = record {
  cycle : IsCycleAt (g.S.Sorter.content l.sorter) l.tables l.drafts l.place;
  turned : turns (with_offers l.tables.rows l.drafts.offers.items) (filter (λ a. a.active) (drop l.place l.tables.rows.agents)) ≡ turns_of l.tables.rows;
  work : AddsDrafts g.S.Sorter.COUNTED (g.S.Sorter.work l.initial.sorter) (g.S.Sorter.work l.sorter) l.initial.drafts.offers.items l.drafts.offers.items;
  made : (g.S.Sorter.work l.initial.sorter).made ≤ (g.S.Sorter.work l.sorter).made;
}
