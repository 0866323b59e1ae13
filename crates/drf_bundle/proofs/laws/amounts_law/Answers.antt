use Rattle.drf_bundle.proofs.theorems.QuantitiesLaws.{same_quantities}
use Rattle.drf_bundle.proofs.laws.amounts_law.Goals as goal

pub returns : goal.returns
returns c = same_quantities
