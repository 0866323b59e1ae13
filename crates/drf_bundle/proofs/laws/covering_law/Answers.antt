use Rattle.drf_bundle.proofs.theorems.QuantitiesLaws.{covers_at, covers_from}
use Rattle.drf_bundle.proofs.laws.covering_law.Goals as goal

pub returns : goal.returns
returns c = λ a b ordered. (covers_at a b, covers_from a b ordered)
