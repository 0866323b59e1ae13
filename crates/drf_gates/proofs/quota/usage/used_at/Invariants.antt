use Rattle.std.proofs.Common.{◌≡◌, ◌+◌}
use Rattle.drf_gates.specs.quota.Allowance.{used_at}
use Rattle.drf_gates.proofs.quota.usage.used_at.Given as goal

-- the sum so far plus what the remaining roles consume
abbrev pub invariant-loop-role : goal.invariant-loop-role
invariant-loop-role l = l.sum + used_at l.role-iterator l.outer l.label ≡ used_at l.used.entries l.outer l.label
