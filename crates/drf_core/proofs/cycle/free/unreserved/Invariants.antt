use Rattle.std.proofs.Common.{◌≡◌, ◌+◌, drop}
use Rattle.drf_rows.specs.Quota.{unreserved_in}
use Rattle.drf_core.proofs.cycle.free.unreserved.Given as goal

-- the sum so far plus the rest is the whole amount
abbrev pub invariant-loop-resource : goal.invariant-loop-resource
invariant-loop-resource l = l.sum + unreserved_in l.label (drop l.resource-index l.resource-items) ≡ unreserved_in l.label l.free
