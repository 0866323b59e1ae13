use Rattle.std.proofs.Common.{drop, map}
use Rattle.drf_tables.proofs.tables.Names.{filled, reserved_for, agent_row}
use Rattle.drf_tables.proofs.limits.Counts.{IsPartly}
use Rattle.drf_tables.proofs.limits.consuming.consume_totals.Given as goal

abbrev pub invariant-loop-slot : goal.invariant-loop-slot
invariant-loop-slot l =
    IsPartly l.initial.consumption l.consumption (λ test label. reserved_for test (map agent_row l.agents.entries) label)
    (λ test label. reserved_for test (map agent_row (filled (drop l.slot-index l.slot-items))) label)
