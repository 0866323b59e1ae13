use Rattle.drf_promises.proofs.theorems.Siblings.{one_offer_apart}
use Rattle.drf_promises.proofs.laws.one_offer_apart_law.Goals as goal

pub returns : goal.returns
returns c = one_offer_apart
