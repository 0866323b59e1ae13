use Rattle.std.proofs.Common.{sym, ap, ◌∙◌}
use Rattle.std.specs.FinSet as set
use Rattle.drf_kinds.proofs.Names.{len-names}
use Rattle.drf_kinds.proofs.items.ItemsAlgebra.amount.Goals as goal

pub returns-clause-amount : goal.returns-clause-amount
returns-clause-amount c =
    c.len.ensures ∙ c.self.inside.names.ok.0 ∙ sym (len-names c.self.inside.names.items c.self.invariant.ascending) ∙ ap set.len c.self.view_is
