use Rattle.std.proofs.Common.{◌∷◌, ◌++◌, sym, subst}
use Rattle.drf_holdings.specs.Listed.{numbers_in, offer_number, offer_on, offer_of}
use Rattle.drf_holdings.specs.Rising.{IsRising}
use Rattle.drf_holdings.proofs.Numbered.{listed_out}
use Rattle.drf_holdings.proofs.RisingLists.{rising_some, others_split}
use Rattle.drf_holdings.proofs.offers.OfferIndex.remove.Goals as goal

pub returns : goal.returns
returns c before after rising listed =
    let offer = c.args.offer.now in
    let old = c.args.self.now in
    let others = others_split offer_number before after offer rising in
    let there = subst IsRising (sym (listed.agents offer.agent)) (rising_some offer_number (offer_on offer.agent) (before ++ offer ∷ after) rising) in
    let its = subst IsRising (sym (listed.frameworks offer.framework)) (rising_some offer_number (offer_of offer.framework) (before ++ offer ∷ after) rising) in
    record {
      agents = listed_out offer_number before after offer others.0 others.1 offer_on (numbers_in old.agents) (numbers_in c.remove.new.self) listed.agents (c.remove.ensures there);
      frameworks = listed_out offer_number before after offer others.0 others.1 offer_of (numbers_in old.frameworks) (numbers_in c.remove-2.new.self) listed.frameworks (c.remove-2.ensures its);
    }
