use Rattle.drf_bundle.proofs.theorems.QuantitiesLaws.{amount-plus, named-plus, in_order-plus, no_zeros-plus, plus_comm, plus_assoc}
use Rattle.drf_bundle.proofs.laws.adding_law.Goals as goal

pub returns : goal.returns
returns c = record { amounts = amount-plus; names = named-plus; in_order = in_order-plus; no_zeros = no_zeros-plus; commutes = plus_comm; associates = plus_assoc }
