use Rattle.drf_sorter.proofs.LineLemmas.{IsAmong}
use Rattle.drf_sorter.proofs.lines.place_of.Given as goal

abbrev pub invariant-loop-i : goal.invariant-loop-i
invariant-loop-i l = IsAmong l.path l.lines l.i
