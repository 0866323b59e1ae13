use Rattle.std.proofs.Common.{◌≡◌, ◌≤◌, ◌-◌, length, drop}
use Rattle.std.specs.List.{list_all}
use Rattle.drf_lines.specs.Written.{is_plain_byte}
use Rattle.drf_lines.proofs.plain.is_plain_slowly.Given as goal

-- the bytes so far are plain
abbrev pub invariant-loop-i : goal.invariant-loop-i
invariant-loop-i l =
    (list_all is_plain_byte (drop l.from l.bytes) ≡ list_all is_plain_byte (drop l.i l.bytes)) × (l.i ≤ length l.bytes)

abbrev pub decreases-loop-i : goal.decreases-loop-i
decreases-loop-i l = length l.bytes - l.i
