use Rattle.std.proofs.Common.{drop}
use Rattle.drf_gates.proofs.quota.Resources.{IsReleased, reserved_by}
use Rattle.drf_gates.proofs.quota.consumption.Consumption.release_each.Given as goal

abbrev pub invariant-loop-resource : goal.invariant-loop-resource
invariant-loop-resource l =
    IsReleased l.initial.self l.self (reserved_by l.resources) (reserved_by (drop l.resource-index l.resources))
