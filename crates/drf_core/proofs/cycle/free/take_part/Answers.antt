use Rattle.std.proofs.Common.{sym, ap, ◌∙◌}
use Rattle.drf_core.specs.cycle.Entitling.{known_part}
use Rattle.drf_core.proofs.cycle.free.take_part.Goals as goal

pub returns-in-Part-clause-part : goal.returns-in-Part-clause-part
returns-in-Part-clause-part c = sym (ap known_part c.in-Part.is) ∙ ap known_part c.replace.ensures.value
