use Rattle.std.proofs.Common.{◌≡◌, ◌+◌, drop}
use Rattle.drf_why.specs.Passers.{shared_parts}
use Rattle.drf_why.proofs.passer_line.shared_parts.Given as goal

abbrev pub invariant-loop-i : goal.invariant-loop-i
invariant-loop-i l = shared_parts l.path l.other ≡ l.i + shared_parts (drop l.i l.path) (drop l.i l.other)
