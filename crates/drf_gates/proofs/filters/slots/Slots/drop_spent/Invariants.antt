use Rattle.std.proofs.Common.{not}
use Rattle.drf_rows.specs.Filters.{is_in_force}
use Rattle.drf_gates.proofs.filters.Held.{IsSwept}
use Rattle.drf_gates.proofs.filters.slots.Slots.drop_spent.Given as goal

abbrev pub invariant-loop-place : goal.invariant-loop-place
invariant-loop-place l = IsSwept (λ f. not (is_in_force l.now f)) l.fn.self l.self l.place l.few
