use Rattle.std.proofs.Common.{◌≡◌}
use Rattle.drf_role.specs.Text.{Text}
use Rattle.drf_bundle.specs.Quantities.{known_amount}
use Rattle.drf_gates.specs.quota.Allowance.{used_at}
use Rattle.drf_gates.proofs.quota.Least.{least_until}
use Rattle.drf_gates.proofs.quota.Quota.headroom.Given as goal

-- the known amounts are what the limits of the prefixes so far leave
abbrev pub invariant-loop-len : goal.invariant-loop-len
invariant-loop-len l = (label : Text) → known_amount l.room label ≡ least_until (used_at l.self.used) l.role label l.len l.self.limits
