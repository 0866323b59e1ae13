use Rattle.std.proofs.Common.{subst}
use Rattle.std.proofs.lemmas.Result.{on_ok_weaker}
use Rattle.drf_gates.specs.quota.Allowance.{quota_under}
use Rattle.drf_core.specs.cycle.Entitling.{IsQuotaOf}
use Rattle.drf_core.proofs.drafting.Granted.{offer-counted, unlimited-counted}
use Rattle.drf_core.proofs.cycle.count_offer.Goals as goal

pub returns-in-Some : goal.returns-in-Some
returns-in-Some c =
    on_ok_weaker c.consume_unreserved.result
    (λ raised rows limits counted. offer-counted rows c.args.offer.now limits c.in-Some.counted c.consume_unreserved.new.self
    (subst (λ o. IsQuotaOf rows (quota_under limits o)) c.in-Some.is counted) raised)
    c.consume_unreserved.ensures.ok

pub returns-in-None : goal.returns-in-None
returns-in-None c = λ rows limits counted. unlimited-counted rows c.args.offer.now limits c.args.consumption.now c.in-None.is counted
