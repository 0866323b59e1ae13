use Rattle.std.specs.List.{IsDistinct}
use Rattle.drf_sorter.proofs.plain.PlainSorterSorter.open.Goals as goal

pub invariant_of-result-clause-distinct : goal.invariant_of-result-clause-distinct
unfolding IsDistinct
invariant_of-result-clause-distinct c = rw c.new.ensures.items tt
