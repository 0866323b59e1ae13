use Rattle.drf_kinds.proofs.Names.{no_names}
use Rattle.drf_kinds.proofs.items.ItemsAlgebra.is_empty.Goals as goal

pub returns-clause-is_empty : goal.returns-clause-is_empty
returns-clause-is_empty c =
    no_names c.self.inside.names.items _ c.self.inside.names.len c.is_empty.result c.self.invariant.ascending c.self.view_is c.self.inside.names.ok.0 c.is_empty.ensures
