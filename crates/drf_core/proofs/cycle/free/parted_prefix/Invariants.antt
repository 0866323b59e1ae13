use Rattle.std.proofs.Common.{◌≡◌, take}
use Rattle.drf_core.proofs.cycle.free.parted_prefix.Given as goal

-- the parts so far are the same
abbrev pub invariant-loop-i : goal.invariant-loop-i
invariant-loop-i l = take l.i l.outer ≡ take l.i l.role
