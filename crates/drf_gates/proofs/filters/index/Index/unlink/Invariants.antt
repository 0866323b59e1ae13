use Rattle.std.proofs.Common.{◌≤◌, ◌+◌}
use Rattle.drf_gates.specs.filters.Index.{IsLedTo}
use Rattle.drf_gates.proofs.filters.index.Index.unlink.Given as goal

abbrev pub invariant-loop-after : goal.invariant-loop-after
invariant-loop-after l = record {
  led : IsLedTo l.self l.bucket l.from l.after;
  comes : l.place + 1 ≤ l.after;
}

abbrev pub decreases-loop-after : goal.decreases-loop-after
decreases-loop-after l = l.after
