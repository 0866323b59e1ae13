use Rattle.std.proofs.Common.{◌∙◌}
use Rattle.drf_bundle.proofs.theorems.QuantitiesLaws.{amount-minus, named-minus, in_order-minus}
use Rattle.drf_bundle.proofs.laws.lowering_law.Goals as goal

pub returns : goal.returns
returns c = record { amounts = amount-minus; names = named-minus; in_order = (λ a b ordered. in_order-minus a b ∙ ordered) }
