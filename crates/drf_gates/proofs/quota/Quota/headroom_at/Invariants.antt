use Rattle.std.proofs.Common.{◌≡◌}
use Rattle.drf_gates.specs.quota.Allowance.{used_at}
use Rattle.drf_gates.proofs.quota.Least.{least_until}
use Rattle.drf_gates.proofs.quota.Quota.headroom_at.Given as goal

-- the known amount is what the limits of the prefixes so far leave
abbrev pub invariant-loop-len : goal.invariant-loop-len
invariant-loop-len l = l.least ≡ least_until (used_at l.self.used) l.role l.label l.len l.self.limits
