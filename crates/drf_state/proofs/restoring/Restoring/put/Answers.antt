use Rattle.std.proofs.Common.{sym, ◌∙◌}
use Rattle.drf_state.proofs.Placed.{fits_behind, restored_with}
use Rattle.drf_state.proofs.restoring.Restoring.put.Goals as goal

pub put-requires-clause-fits : goal.put-requires-clause-fits
put-requires-clause-fits g c =
    let limits = c.self.inside.limits in
    let parts = c.self.inside.parts in
    fits_behind limits parts.tables (g.S.Sorter.content parts.sorter) parts.counted c.args.row
    c.self.invariant c.recall.ensures (sym c.in_ok-fault.ensures ∙ c.in_default.is)

pub invariant_of-result : goal.invariant_of-result
invariant_of-result g c =
    let limits = c.self.inside.limits in
    let old = c.self.inside.parts in
    let new = c.put.new.self in
    restored_with limits old.tables (g.S.Sorter.content old.sorter) old.counted c.args.row new.tables (g.S.Sorter.content new.sorter) new.counted
    c.self.invariant c.recall.ensures (sym c.in_ok-fault.ensures ∙ c.in_default.is) c.in_ok-put.ensures.placed
