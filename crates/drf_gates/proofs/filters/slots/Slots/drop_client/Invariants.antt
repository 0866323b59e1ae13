use Rattle.drf_gates.proofs.filters.Held.{IsRevived}
use Rattle.drf_gates.proofs.filters.slots.Slots.drop_client.Given as goal

abbrev pub invariant-loop-after : goal.invariant-loop-after
invariant-loop-after l = IsRevived (record { role = l.role; framework = l.framework }) l.fn.self l.self l.after

abbrev pub decreases-loop-after : goal.decreases-loop-after
decreases-loop-after l = l.after
