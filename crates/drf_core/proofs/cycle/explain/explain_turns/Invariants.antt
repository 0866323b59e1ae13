use Rattle.std.proofs.Common.{◌≡◌, ◌++◌, drop}
use Rattle.drf_explain.specs.Explained.{reported_of_agents}
use Rattle.drf_tables.specs.cycle.Drafts.{with_offers}
use Rattle.drf_core.specs.cycle.Drafting.{IsCycleAt}
use Rattle.drf_core.proofs.cycle.explain.explain_turns.Given as goal

-- the agents before this one were reported, and the others remain
abbrev pub invariant-loop-place : goal.invariant-loop-place
invariant-loop-place g l = record {
  cycle : IsCycleAt (g.S.Sorter.content l.sorter) l.tables l.drafts l.place;
  reported : l.findings.items ++ reported_of_agents (with_offers l.tables.rows l.drafts.offers.items) (drop l.place l.tables.rows.agents)
      ≡ l.initial.findings.items ++ reported_of_agents l.tables.rows l.tables.rows.agents;
}
