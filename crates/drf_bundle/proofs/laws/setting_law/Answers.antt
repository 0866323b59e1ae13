use Rattle.drf_bundle.proofs.theorems.QuantitiesLaws.{amount-with, named-with, in_order-with}
use Rattle.drf_bundle.proofs.laws.setting_law.Goals as goal

pub returns : goal.returns
returns c = record { amount = amount-with; names = named-with; in_order = in_order-with }
