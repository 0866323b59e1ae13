use Rattle.drf_gates.specs.quota.Totals.{AreExact}
use Rattle.drf_gates.proofs.quota.totals.totals_of.Given as goal

abbrev pub invariant-loop-role : goal.invariant-loop-role
invariant-loop-role l = AreExact l.used.entries l.totals.entries
