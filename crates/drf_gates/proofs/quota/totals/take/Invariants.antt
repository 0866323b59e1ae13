use Rattle.std.proofs.Common.{drop}
use Rattle.drf_gates.proofs.quota.Total.{IsMoving}
use Rattle.drf_gates.proofs.quota.totals.take.Given as goal

abbrev pub invariant-loop-entry : goal.invariant-loop-entry
invariant-loop-entry l = IsMoving l.sum l.initial.sum l.less (drop l.entry-index l.entry-items)
