use Rattle.std.proofs.Common.{◌≡◌, take}
use Rattle.drf_gates.specs.quota.Prefix.{size_of}
use Rattle.drf_gates.proofs.quota.prefixes.end_of.Given as goal

abbrev pub invariant-loop-i : goal.invariant-loop-i
invariant-loop-i l = l.next ≡ size_of (take l.i l.role)
