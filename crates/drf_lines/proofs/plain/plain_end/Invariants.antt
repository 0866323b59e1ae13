use Rattle.std.proofs.Common.{◌-◌, ◌≤◌, length}
use Rattle.drf_lines.specs.Written.{ArePlainFrom}
use Rattle.drf_lines.proofs.plain.plain_end.Given as goal

-- the bytes so far are plain
abbrev pub invariant-loop-i : goal.invariant-loop-i
invariant-loop-i l = (l.from ≤ l.i) × (l.i ≤ length l.bytes) × ArePlainFrom l.bytes l.from l.i

abbrev pub decreases-loop-i : goal.decreases-loop-i
decreases-loop-i l = length l.bytes - l.i
