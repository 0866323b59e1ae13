use Rattle.std.proofs.Common.{◌≡◌, ◌≤◌, take, length}
use Rattle.drf_amount.proofs.parts.truncate.Given as goal

-- the first parts stay
abbrev pub invariant-loop-parts : goal.invariant-loop-parts
invariant-loop-parts g l = record {
  enough : l.count ≤ length l.parts.entries;
  same : take l.count l.parts.entries ≡ take l.count l.fn.parts.entries;
}

abbrev pub decreases-loop-parts : goal.decreases-loop-parts
decreases-loop-parts g l = length l.parts.entries
