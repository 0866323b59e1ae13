use Rattle.std.proofs.Common.{◌++◌, map, ap}
use Rattle.drf_rows.specs.Holdings.{holding_of_offer}
use Rattle.drf_show.specs.Had.{parts_for}
use Rattle.drf_show.proofs.Parts.{had_more, had_all}
use Rattle.drf_show.proofs.had.Had.offers_by_framework.Goals as goal

pub loop-offer-init : goal.loop-offer-init
loop-offer-init c = λ framework. ap (λ ps. ps ++ parts_for framework (map holding_of_offer c.args.offers.now)) (c.new-had.ensures framework)

pub loop-offer-preserved : goal.loop-offer-preserved
loop-offer-preserved c = λ framework.
    had_more holding_of_offer framework c.args.offers.now _ _ _ c.loop-offer.offer-index c.offer-item.result c.loop-offer-test.true c.offer-item.is
    (c.loop-offer.invariant framework) (c.in_ok-add.ensures framework)

pub returns : goal.returns
returns c = λ framework.
    had_all holding_of_offer framework c.args.offers.now _ _ c.loop-offer.offer-index c.loop-offer-test.false (c.loop-offer.invariant framework)
