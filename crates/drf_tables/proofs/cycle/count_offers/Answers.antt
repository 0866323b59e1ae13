use Rattle.std.proofs.Common.{◌≡◌, ◌+◌, ◌∷◌, List, length, sym, ap, ◌∙◌, arith}
use Rattle.drf_tables.proofs.tables.Names.{FrameworkRow, OfferRow, counting_all, framework_rows}
use Rattle.drf_tables.proofs.cycle.Counted.{CanCountAll-counting}
use Rattle.drf_tables.proofs.cycle.count_offers.Goals as goal

pub loop-offer-preserved : goal.loop-offer-preserved
loop-offer-preserved c =
    let at = c.loop-offer in
    let offer : OfferRow = c.in-Some.offer.now in
    let rest : List OfferRow = c.next.new.self in
    let fs : List FrameworkRow = framework_rows at.frameworks.entries in
    let split : at.offer-iterator ≡ offer ∷ rest = c.in-Some.ensures.steps in
    let next : length at.offer-iterator ≡ length rest + 1 = omega (arith, ap length split) in
    rw c.count_offer.ensures (record {
      fits = CanCountAll-counting (length rest) (length at.offer-iterator) fs offer next at.invariant.fits;
      counted = sym (ap (counting_all fs) split) ∙ at.invariant.counted;
    })
