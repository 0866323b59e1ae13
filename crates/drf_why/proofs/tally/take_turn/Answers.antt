use Rattle.std.proofs.Common.{map, ◌∙◌}
use Rattle.drf_why.specs.Passers.{Turn}
use Rattle.drf_why.specs.Tally.{with_turn}
use Rattle.drf_why.proofs.Tallied.{tallies-next}
use Rattle.drf_why.proofs.tally.take_turn.Goals as goal

pub returns : goal.returns
returns c = λ rows turns so.
    let turn : Turn = (c.args.turn.now.reported.items, c.args.turn.now.untouched.items) in
    c.in_ok-take_in_each.ensures
    ∙ (λ i. map (with_turn ((c.in_ok-found.ensures.turn i).reported.items, (c.in_ok-found.ensures.turn i).untouched.items)) (so i))
    ∙ tallies-next rows turns turn
