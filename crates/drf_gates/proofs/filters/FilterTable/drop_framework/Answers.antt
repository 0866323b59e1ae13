use Rattle.std.proofs.Common.{not}
use Rattle.drf_role.specs.Text.{same_text}
use Rattle.drf_gates.proofs.filters.Held.{table-filter}
use Rattle.drf_gates.proofs.filters.FilterTable.drop_framework.Goals as goal

pub invariant_of-self : goal.invariant_of-self
invariant_of-self c =
    table-filter (λ f. not (same_text f.framework c.args.framework.now)) c.self.inside.slots c.drop_framework.new.self c.self.inside.soonest
    c.drop_framework.ensures.others c.drop_framework.ensures.slots c.self.invariant
