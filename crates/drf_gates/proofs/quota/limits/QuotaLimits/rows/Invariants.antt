use Rattle.std.proofs.Common.{◌≡◌, ◌++◌}
use Rattle.drf_gates.specs.quota.Allowance.{limit_rows}
use Rattle.drf_gates.proofs.quota.limits.QuotaLimits.rows.Given as goal

abbrev pub invariant-loop-role : goal.invariant-loop-role
invariant-loop-role l = l.rows.items ++ limit_rows l.role-iterator ≡ l.self
