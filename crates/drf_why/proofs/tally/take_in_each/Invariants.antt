use Rattle.std.proofs.Common.{◌≡◌, ◌++◌, map, take, drop}
use Rattle.drf_why.specs.Places.{turn_of}
use Rattle.drf_why.specs.Tally.{with_turn}
use Rattle.drf_why.proofs.tally.take_in_each.Given as goal

abbrev pub invariant-loop-tally : goal.invariant-loop-tally
invariant-loop-tally l =
    l.tallies ≡ map (with_turn (turn_of l.turn)) (take l.tally-index l.fn.tallies) ++ drop l.tally-index l.fn.tallies
