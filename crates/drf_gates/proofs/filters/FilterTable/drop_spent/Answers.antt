use Rattle.std.proofs.Common.{◌≡◌, List, subst, sym}
use Rattle.drf_rows.specs.Filters.{in_force}
use Rattle.drf_rows.specs.declared.rows.FilterRow.{FilterRow}
use Rattle.drf_gates.specs.filters.Slots.{filters_in}
use Rattle.drf_gates.proofs.filters.Held.{all_in_force}
use Rattle.drf_gates.proofs.filters.FilterTable.drop_spent.Goals as goal

pub returns-then-now-self : goal.returns-then-now-self
returns-then-now-self c =
    let t = c.self.inside in
    subst (λ (rows : List FilterRow). rows ≡ in_force c.args.now rows) c.self.view_is
    (sym (all_in_force c.args.now t.soonest (filters_in t.slots) c.if-now-self.true c.self.invariant.none_before))
