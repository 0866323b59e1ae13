use Rattle.std.proofs.Common.{◌≡◌, ℕ, ◌<◌, true}
use Rattle.drf_rows.specs.Quota.{stays_within}
use Rattle.drf_gates.specs.quota.Prefix.{prefix_passes}
use Rattle.drf_gates.specs.quota.Allowance.{used_at}
use Rattle.drf_gates.proofs.quota.Quota.admits_one.Given as goal

-- the limits of the prefixes so far leave room
abbrev pub invariant-loop-len : goal.invariant-loop-len
invariant-loop-len l = (n : ℕ) → n < l.len → prefix_passes (stays_within (used_at l.self.used) l.more) l.role l.more.label n l.self.limits ≡ true
