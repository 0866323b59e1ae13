use Rattle.std.proofs.Common.{◌≡◌, ◌+◌}
use Rattle.drf_role.specs.Text.{Text}
use Rattle.drf_bundle.specs.Quantities.{amount_of}
use Rattle.drf_gates.specs.quota.Allowance.{used_at}
use Rattle.drf_gates.proofs.quota.totals.add_used.Given as goal

-- the sum so far plus what the remaining roles consume
abbrev pub invariant-loop-role : goal.invariant-loop-role
invariant-loop-role l =
    (label : Text)
    → amount_of l.sum label + used_at l.role-iterator l.outer label ≡ amount_of l.initial.sum label + used_at l.used.entries l.outer label
