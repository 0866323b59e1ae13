use Rattle.std.proofs.Common.{not}
use Rattle.drf_rows.specs.Filters.{is_on_agent}
use Rattle.drf_gates.proofs.filters.Held.{table-filter}
use Rattle.drf_gates.proofs.filters.FilterTable.drop_agent.Goals as goal

pub invariant_of-self : goal.invariant_of-self
invariant_of-self c =
    table-filter (λ f. not (is_on_agent c.args.agent.now f)) c.self.inside.slots c.drop_agent.new.self c.self.inside.soonest c.drop_agent.ensures.others
    c.drop_agent.ensures.slots c.self.invariant
