use Rattle.std.proofs.Common.{length}
use Rattle.drf_drive.proofs.Scripts.{ReadPrefix}
use Rattle.drf_drive.proofs.script.take_lines.Given as goal

-- the events are those of the lines so far
abbrev pub invariant-loop-rest : goal.invariant-loop-rest
invariant-loop-rest l = ReadPrefix l.fn.bytes l.rest l.events.items

abbrev pub decreases-loop-rest : goal.decreases-loop-rest
decreases-loop-rest l = length l.rest
