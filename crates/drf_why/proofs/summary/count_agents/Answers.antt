use Rattle.drf_why.proofs.Lists.{counted_all, counted_more, counted_none}
use Rattle.drf_why.proofs.summary.count_agents.Goals as goal

pub loop-turn-init : goal.loop-turn-init
loop-turn-init c = counted_none _ _

pub loop-turn-preserved : goal.loop-turn-preserved
loop-turn-preserved c =
    let next = rw c.in-Some.is at c.in_ok-turn.ensures.reported in
    counted_more _ _ _ _ c.loop-turn.invariant _ _ _ next c.in_ok-take_turn.ensures

pub returns : goal.returns
returns c =
    let none = rw c.in_default.is at c.in_ok-turn.ensures.reported in
    counted_all _ _ _ _ c.loop-turn.invariant none.0
