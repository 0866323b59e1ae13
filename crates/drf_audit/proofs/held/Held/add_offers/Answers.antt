use Rattle.drf_rows.specs.Holdings.{holding_of_offer}
use Rattle.drf_audit.proofs.Parts.{held_more, held_all}
use Rattle.drf_audit.proofs.held.Held.add_offers.Goals as goal

pub loop-offer-preserved : goal.loop-offer-preserved
loop-offer-preserved c = λ agent.
    held_more holding_of_offer agent c.args.offers.now _ _ _ c.loop-offer.offer-index c.offer-item.result c.loop-offer-test.true c.offer-item.is
    (c.loop-offer.invariant agent) (c.in_ok-add.ensures agent)

pub returns : goal.returns
returns c = λ agent.
    held_all holding_of_offer agent c.args.offers.now _ _ c.loop-offer.offer-index c.loop-offer-test.false (c.loop-offer.invariant agent)
