use Rattle.std.proofs.Common.{◌≡◌, drop}
use Rattle.std.specs.Ordering.{nat_cmp}
use Rattle.std.specs.Cmp.Lexicographic.{slice_cmp}
use Rattle.drf_role.proofs.joined.JoinedOrd.cmp.Given as goal

abbrev pub invariant-loop-i : goal.invariant-loop-i
invariant-loop-i l =
    slice_cmp (slice_cmp nat_cmp) (drop l.i l.self) (drop l.i l.other) ≡ slice_cmp (slice_cmp nat_cmp) l.self l.other
