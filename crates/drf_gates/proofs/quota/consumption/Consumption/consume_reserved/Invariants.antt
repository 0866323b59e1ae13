use Rattle.std.proofs.Common.{drop}
use Rattle.drf_gates.proofs.quota.Resources.{IsConsumed}
use Rattle.drf_gates.proofs.quota.consumption.Consumption.consume_reserved.Given as goal

abbrev pub invariant-loop-place : goal.invariant-loop-place
invariant-loop-place l = IsConsumed l.total l.initial.self l.self (drop l.place l.total)
