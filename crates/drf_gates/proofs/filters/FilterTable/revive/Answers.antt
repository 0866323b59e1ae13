use Rattle.std.proofs.Common.{not}
use Rattle.drf_rows.specs.Filters.{is_of_client}
use Rattle.drf_gates.proofs.filters.Held.{table-filter}
use Rattle.drf_gates.proofs.filters.FilterTable.revive.Goals as goal

pub invariant_of-self : goal.invariant_of-self
invariant_of-self c =
    table-filter (λ f. not (is_of_client (record { role = c.args.role.now; framework = c.args.framework.now }) f)) c.self.inside.slots c.drop_client.new.self
    c.self.inside.soonest c.drop_client.ensures.others c.drop_client.ensures.slots c.self.invariant
