use Rattle.std.proofs.Common.{◌≡◌, ℕ, ◌<◌, true}
use Rattle.drf_gates.specs.quota.Allowance.{used_at}
use Rattle.drf_gates.specs.quota.Prefix.{prefix_leaves}
use Rattle.drf_gates.proofs.quota.Quota.short_prefix.Given as goal

-- the limits of the prefixes so far leave enough
abbrev pub invariant-loop-len : goal.invariant-loop-len
invariant-loop-len l = (n : ℕ) → n < l.len → prefix_leaves (used_at l.self.used) l.role l.label l.least n l.self.limits ≡ true
