use Rattle.std.proofs.Common.{◌≡◌, ◌++◌}
use Rattle.drf_tables.proofs.tables.copied.copy_weights.Given as goal

abbrev pub invariant-loop-role : goal.invariant-loop-role
invariant-loop-role l = l.copy.entries ++ l.role-iterator ≡ l.weights.entries
