use Rattle.std.proofs.Common.{◌+◌, ap, ◌∙◌, refl, set}
use Rattle.drf_why.specs.Places.{turn_of}
use Rattle.drf_why.specs.Tally.{with_turn}
use Rattle.drf_why.proofs.Tallied.{map_next}
use Rattle.drf_why.proofs.tally.take_in_each.Goals as goal

pub loop-tally-preserved : goal.loop-tally-preserved
loop-tally-preserved c =
    let at = c.loop-tally in
    ap (set at.tallies at.tally-index) c.in_ok-take.ensures
    ∙ map_next (with_turn (turn_of c.args.turn.now)) c.args.tallies.now at.tallies at.tally-index (at.tally-index + 1) c.tally-item.result
    refl c.loop-tally-test.true at.invariant
