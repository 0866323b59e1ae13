use Rattle.std.proofs.Common.{◌≡◌, ◌-◌, ◌≤◌, length, take, drop}
use Rattle.drf_state.specs.State.{rest_says}
use Rattle.drf_state.specs.laws.Parts.{parts_of_text}
use Rattle.drf_state.proofs.reader.take_lines.Given as goal

-- the meaning of the bytes is that of the remaining bytes after the lines so far
abbrev pub invariant-loop-at : goal.invariant-loop-at
invariant-loop-at g l =
    (1 ≤ l.lines) × (l.lines ≤ l.read) × (l.read ≤ length l.bytes) × (l.restoring.limits ≡ l.fn.begun.limits)
    × (rest_says l.fn.begun.limits (take l.fn.start l.bytes) 1 l.fn.begun.rows (parts_of_text (drop l.fn.start l.bytes))
    ≡ rest_says l.restoring.limits (take l.read l.bytes) l.lines l.restoring.rows (parts_of_text (drop l.read l.bytes)))

abbrev pub decreases-loop-at : goal.decreases-loop-at
decreases-loop-at g l = length l.bytes - l.read
