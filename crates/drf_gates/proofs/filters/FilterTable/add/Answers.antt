use Rattle.drf_gates.proofs.filters.Held.{table-push}
use Rattle.drf_gates.proofs.filters.FilterTable.add.Goals as goal

pub invariant_of-self-2 : goal.invariant_of-self-2
invariant_of-self-2 c =
    table-push c.self.inside.slots c.add.new.self c.args.row c.self.inside.soonest c.min-self-inside.result c.in_ok-add.ensures.ok c.min-self-inside.ensures
    c.in_ok-add.ensures.slots c.self.invariant
