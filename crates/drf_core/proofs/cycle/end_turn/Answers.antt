use Rattle.drf_core.proofs.cycle.end_turn.Goals as goal

pub returns-clause-cycle : goal.returns-clause-cycle
returns-clause-cycle c = λ content tables queue turn.
    record { drafting = turn.drafting; settled = turn.settled; left = rw c.in_ok-push.ensures.items turn.left; quota = turn.quota }
