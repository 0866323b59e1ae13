use Rattle.std.proofs.Common.{Some}
use Rattle.drf_bundle.proofs.PlaceLemmas.{found_first}
use Rattle.drf_bundle.proofs.quantities.Quantities.place_among.Goals as goal

pub returns-in-Some-clause-found : goal.returns-in-Some-clause-found
returns-in-Some-clause-found c = found_first _ _ (Some c.in-Some.at) c.in-Some.ensures
