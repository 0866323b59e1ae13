use Rattle.std.proofs.Common.{drop}
use Rattle.drf_bundle.proofs.SumLemmas.{Summed}
use Rattle.drf_bundle.proofs.parts.sums.Given as goal

-- the sums so far and the remaining scalars make all sums, which are small enough
abbrev pub invariant-loop-resource : goal.invariant-loop-resource
invariant-loop-resource l = Summed l.resources l.sums (drop l.resource-index l.resources)
