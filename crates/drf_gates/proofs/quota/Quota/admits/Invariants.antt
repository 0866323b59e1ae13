use Rattle.std.proofs.Common.{◌≡◌, drop}
use Rattle.drf_rows.specs.Quota.{admits_under}
use Rattle.drf_gates.specs.quota.Allowance.{used_at}
use Rattle.drf_gates.proofs.quota.Quota.admits.Given as goal

abbrev pub invariant-loop-more : goal.invariant-loop-more
invariant-loop-more l =
    admits_under l.self.limits (used_at l.self.used) l.role (drop l.more-index l.more-items)
    ≡ admits_under l.self.limits (used_at l.self.used) l.role l.more-items
