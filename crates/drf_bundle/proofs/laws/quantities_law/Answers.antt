use Rattle.drf_bundle.proofs.theorems.SumLaws.{amount-quantities_of}
use Rattle.drf_bundle.proofs.theorems.UnitProofs.{quantities_no_zeros, quantities_add}
use Rattle.drf_bundle.proofs.laws.quantities_law.Goals as goal

pub returns : goal.returns
returns c = record { amounts = amount-quantities_of; no_zeros = quantities_no_zeros; joined = quantities_add }
