use Rattle.drf_lines.proofs.KeyStarts.{BeginApart}
use Rattle.drf_lines.proofs.object.begin_apart.Given as goal

abbrev pub invariant-loop-member : goal.invariant-loop-member
invariant-loop-member l = BeginApart l.members l.seen l.member-index
