use Rattle.drf_sorter.proofs.ArrivalLemmas.{arrival_does_not_matter}
use Rattle.drf_sorter.proofs.laws.arrival_law.Goals as goal

pub returns : goal.returns
returns c = arrival_does_not_matter
