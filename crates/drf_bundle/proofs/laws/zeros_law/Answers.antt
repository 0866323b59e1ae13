use Rattle.drf_bundle.proofs.theorems.QuantitiesLaws.{amount-without_zeros, no_zeros-without_zeros}
use Rattle.drf_bundle.proofs.laws.zeros_law.Goals as goal

pub returns : goal.returns
returns c = record { amounts = amount-without_zeros; no_zeros = no_zeros-without_zeros }
