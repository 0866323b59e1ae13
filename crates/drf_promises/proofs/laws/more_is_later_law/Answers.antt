use Rattle.drf_promises.proofs.theorems.Overtaken.{nobody_overtakes}
use Rattle.drf_promises.proofs.theorems.Siblings.{more_is_later, offer_is_later, weight_is_not_later}
use Rattle.drf_promises.proofs.laws.more_is_later_law.Goals as goal

pub returns-clause-more : goal.returns-clause-more
returns-clause-more c = more_is_later

pub returns-clause-offer : goal.returns-clause-offer
returns-clause-offer c = offer_is_later

pub returns-clause-weight : goal.returns-clause-weight
returns-clause-weight c = weight_is_not_later

pub returns-clause-runs : goal.returns-clause-runs
returns-clause-runs c = nobody_overtakes
