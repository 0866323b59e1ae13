use Rattle.std.proofs.Common.{drop}
use Rattle.drf_gates.proofs.quota.Resources.{IsSummed}
use Rattle.drf_gates.proofs.quota.consumed.unreserved.Given as goal

abbrev pub invariant-loop-resource : goal.invariant-loop-resource
invariant-loop-resource l = IsSummed l.bundle l.sum (drop l.resource-index l.bundle)
