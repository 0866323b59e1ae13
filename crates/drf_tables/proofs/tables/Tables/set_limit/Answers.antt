use Rattle.std.proofs.Common.{List, Option, sym, subst}
use Rattle.drf_rows.specs.declared.rows.LimitRow.{LimitRow}
use Rattle.drf_tables.proofs.tables.Names.{Usage, IsWhole}
use Rattle.drf_tables.proofs.reservations.Moved.{limit-set}
use Rattle.drf_tables.proofs.tables.Tables.set_limit.Goals as goal

pub invariant_of-self : goal.invariant_of-self
invariant_of-self c =
    let t = c.self.inside in
    subst (λ (ls : List LimitRow). IsWhole (record t { limits = ls })) (sym c.in_err-set.ensures.err) c.self.invariant

pub invariant_of-self-2 : goal.invariant_of-self-2
invariant_of-self-2 c =
    let t = c.self.inside in
    subst (λ (q : List LimitRow × Option (List Usage)). IsWhole (record t { limits = q.0; consumption = q.1 }))
    (λ i. (sym c.in_ok-set.ensures.ok i, sym c.follow_limit.ensures i))
    (limit-set t c.self.invariant c.args.role c.args.limit c.requires c.recall.ensures.right)
