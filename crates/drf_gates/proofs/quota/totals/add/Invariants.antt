use Rattle.std.proofs.Common.{drop}
use Rattle.drf_gates.proofs.quota.Total.{IsMoving}
use Rattle.drf_gates.proofs.quota.totals.add.Given as goal

abbrev pub invariant-loop-entry : goal.invariant-loop-entry
invariant-loop-entry l = IsMoving l.initial.sum l.sum l.more (drop l.entry-index l.entry-items)
