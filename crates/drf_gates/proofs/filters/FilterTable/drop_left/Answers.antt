use Rattle.std.proofs.Common.{not}
use Rattle.drf_rows.specs.Roles.{is_of_left}
use Rattle.drf_gates.proofs.filters.Held.{table-filter}
use Rattle.drf_gates.proofs.filters.FilterTable.drop_left.Goals as goal

pub invariant_of-self : goal.invariant_of-self
invariant_of-self c =
    table-filter (λ f. not (is_of_left c.args.framework.now c.args.roles.now f)) c.self.inside.slots c.drop_left.new.self c.self.inside.soonest
    c.drop_left.ensures.others c.drop_left.ensures.slots c.self.invariant
