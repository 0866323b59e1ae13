use Rattle.std.proofs.Common.{◌≡◌, ◌++◌}
use Rattle.drf_tables.specs.Inside.{weight_rows}
use Rattle.drf_tables.proofs.tables.listing.weight_rows.Given as goal

abbrev pub invariant-loop-role : goal.invariant-loop-role
invariant-loop-role l = l.rows.items ++ weight_rows l.role-iterator ≡ weight_rows l.weights.entries
