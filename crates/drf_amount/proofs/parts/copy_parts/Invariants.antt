use Rattle.std.proofs.Common.{◌≡◌, ◌++◌}
use Rattle.drf_amount.proofs.parts.copy_parts.Given as goal

-- the copies and the parts that are still to come are all parts
abbrev pub invariant-loop-number : goal.invariant-loop-number
invariant-loop-number g l = l.copy.entries ++ l.number-iterator ≡ l.parts.entries
