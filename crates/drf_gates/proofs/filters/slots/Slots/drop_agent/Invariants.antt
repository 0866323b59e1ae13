use Rattle.drf_rows.specs.Filters.{is_on_agent}
use Rattle.drf_gates.proofs.filters.Held.{IsSwept}
use Rattle.drf_gates.proofs.filters.slots.Slots.drop_agent.Given as goal

abbrev pub invariant-loop-place : goal.invariant-loop-place
invariant-loop-place l = IsSwept (is_on_agent l.agent) l.fn.self l.self l.place l.few
