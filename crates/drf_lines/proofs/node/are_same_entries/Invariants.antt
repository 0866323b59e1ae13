use Rattle.std.proofs.Common.{◌≡◌, take}
use Rattle.drf_lines.proofs.node.are_same_entries.Given as goal

-- the entries so far are equal
abbrev pub invariant-loop-i : goal.invariant-loop-i
invariant-loop-i l = take l.i l.entries ≡ take l.i l.others
