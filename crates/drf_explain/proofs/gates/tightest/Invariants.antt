use Rattle.std.proofs.Common.{◌≡◌, fold, drop, None}
use Rattle.std.specs.Option.{option_copied}
use Rattle.drf_gates.specs.quota.Allowance.{used_at}
use Rattle.drf_rows.specs.Quota.{binds, room_under}
use Rattle.drf_explain.specs.Explained.{tighter}
use Rattle.drf_explain.specs.Gates.{reduced}
use Rattle.drf_explain.proofs.gates.tightest.Given as goal

-- the result so far, continued over the remaining limits, is the result for all
abbrev pub invariant-loop-limit : goal.invariant-loop-limit
invariant-loop-limit l =
    fold (reduced (binds l.role l.label) (λ m. m) (tighter (room_under (used_at l.quota.used) l.label))) (option_copied l.found) (drop l.limit-index l.limits)
    ≡ fold (reduced (binds l.role l.label) (λ m. m) (tighter (room_under (used_at l.quota.used) l.label))) None l.limits
