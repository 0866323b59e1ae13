use Rattle.std.proofs.Common.{◌≡◌, take}
use Rattle.drf_sorter.proofs.client.begins_with.Given as goal

abbrev pub invariant-loop-i : goal.invariant-loop-i
invariant-loop-i l = take l.i l.path ≡ take l.i l.node
