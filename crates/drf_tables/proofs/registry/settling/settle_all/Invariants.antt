use Rattle.std.proofs.Common.{◌≡◌, map, length, true}
use Rattle.std.specs.List.{AllByRecursion}
use Rattle.drf_tables.proofs.tables.Names.{are_settled, agent_row, IsKnown}
use Rattle.drf_holdings.specs.Stored.{holdings_in}
use Rattle.drf_tables.proofs.registry.settling.settle_all.Given as goal

abbrev pub invariant-loop-place : goal.invariant-loop-place
invariant-loop-place l = record {
  rows : map agent_row l.agents.entries ≡ map agent_row l.fn.agents.entries;
  known : AllByRecursion (IsKnown (holdings_in l.holdings)) l.agents.entries;
  settled : are_settled l.place l.agents.entries ≡ true;
  number : length l.agents.entries ≡ length l.fn.agents.entries;
}
