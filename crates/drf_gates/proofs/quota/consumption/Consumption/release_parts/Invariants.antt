use Rattle.std.proofs.Common.{drop}
use Rattle.drf_gates.proofs.quota.Resources.{IsReleased, unreserved_by}
use Rattle.drf_gates.proofs.quota.consumption.Consumption.release_parts.Given as goal

abbrev pub invariant-loop-resource : goal.invariant-loop-resource
invariant-loop-resource l =
    IsReleased l.initial.self l.self (unreserved_by l.role l.bundle) (unreserved_by l.role (drop l.resource-index l.bundle))
