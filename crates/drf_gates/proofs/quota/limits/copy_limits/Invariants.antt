use Rattle.std.proofs.Common.{◌≡◌, ◌++◌}
use Rattle.drf_gates.proofs.quota.limits.copy_limits.Given as goal

abbrev pub invariant-loop-role : goal.invariant-loop-role
invariant-loop-role l = l.copy.entries ++ l.role-iterator ≡ l.limits.entries
