use Rattle.std.proofs.Common.{◌≡◌, take}
use Rattle.drf_master.proofs.same.are_rows.Given as goal

-- the elements so far are equal
abbrev pub invariant-loop-place : goal.invariant-loop-place
invariant-loop-place g l = take l.place l.rows ≡ take l.place l.others
