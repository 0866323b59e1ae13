use Rattle.drf_kinds.proofs.Names.{no_names_of_set}
use Rattle.drf_kinds.proofs.items.ItemsAlgebra.empty.Goals as goal

pub invariant_of-result : goal.invariant_of-result
invariant_of-result c = rw c.new.ensures.items no_names_of_set
