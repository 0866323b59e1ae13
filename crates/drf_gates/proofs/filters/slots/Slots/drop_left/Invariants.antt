use Rattle.drf_rows.specs.Roles.{is_of_left}
use Rattle.drf_gates.proofs.filters.Held.{IsSwept}
use Rattle.drf_gates.proofs.filters.slots.Slots.drop_left.Given as goal

abbrev pub invariant-loop-place : goal.invariant-loop-place
invariant-loop-place l = IsSwept (is_of_left l.framework l.roles) l.fn.self l.self l.place l.few
