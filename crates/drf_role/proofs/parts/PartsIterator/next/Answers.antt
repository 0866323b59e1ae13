use Rattle.std.proofs.Common.{sym, ◌∙◌}
use Rattle.drf_role.proofs.OrderLemmas.{drop_from_get}
use Rattle.drf_role.proofs.parts.PartsIterator.next.Goals as goal

pub returns-clause-steps : goal.returns-clause-steps
returns-clause-steps c =
    sym c.self.view_is ∙ drop_from_get c.self.inside.joined.now c.self.inside.next c.part.result.now c.part.ensures
