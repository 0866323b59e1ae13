use Rattle.std.proofs.Common.{sym}
use Rattle.drf_state.proofs.Placed.{head_fits, restored_begun}
use Rattle.drf_state.proofs.restoring.Restoring.begin.Goals as goal

pub begin-requires-clause-early : goal.begin-requires-clause-early
begin-requires-clause-early g c = (head_fits c.args.limits c.args.head (sym c.in_default.ensures)).0

pub begin-requires-clause-numbered : goal.begin-requires-clause-numbered
begin-requires-clause-numbered g c = (head_fits c.args.limits c.args.head (sym c.in_default.ensures)).1

pub invariant_of-result : goal.invariant_of-result
invariant_of-result g c =
    let parts = c.in_ok-begin.field-0 in
    restored_begun c.args.limits c.args.head parts.tables (g.S.Sorter.content parts.sorter) parts.counted
    c.agents.ensures.within (sym c.in_default.ensures) c.in_ok-begin.ensures.rows c.in_ok-begin.ensures.agree
