use Rattle.std.proofs.Common.{ap, ◌∙◌, arith}
use Rattle.drf_sorter.specs.Content.{has_client, with_change, discharged}
use Rattle.drf_core.proofs.drafting.Drafts.{clients_prefix, has_client-last, HasChargeAt-last, sorted-taken_back}
use Rattle.drf_core.proofs.cycle.take_back.Goals as goal

pub undo_charge-requires-clause-known : goal.undo_charge-requires-clause-known
undo_charge-requires-clause-known g c =
    let content = g.S.Sorter.content c.loop-offer.sorter in
    ap (has_client content) c.from_parts-client.ensures
    ∙ has_client-last content c.args.tables.now.rows c.loop-offer.offers.items c.pop.new.self.items c.in-Some.offer c.in-Some.ensures.items c.loop-offer.invariant.sorted c.loop-offer.invariant.clients

pub undo_charge-requires-clause-charged : goal.undo_charge-requires-clause-charged
undo_charge-requires-clause-charged g c =
    let content = g.S.Sorter.content c.loop-offer.sorter in
    let held = HasChargeAt-last content c.args.tables.now.rows c.loop-offer.offers.items c.pop.new.self.items c.in-Some.offer c.in-Some.ensures.items c.loop-offer.invariant.sorted c.loop-offer.invariant.clients in
    rw (c.from_parts-client.ensures, c.quantities.ensures.value) held

pub loop-offer-preserved : goal.loop-offer-preserved
loop-offer-preserved g c =
    let content = g.S.Sorter.content c.loop-offer.sorter in
    let taken = sorted-taken_back content c.args.tables.now.rows c.loop-offer.offers.items c.pop.new.self.items c.in-Some.offer c.in-Some.ensures.items c.loop-offer.invariant.sorted c.loop-offer.invariant.clients
    (g.S.Sorter.content c.undo_charge.new.self) in
    let prefix = clients_prefix content c.args.tables.now.rows c.loop-offer.offers.items c.pop.new.self.items c.in-Some.offer c.in-Some.ensures.items c.loop-offer.invariant.sorted c.loop-offer.invariant.clients in
    record {
      sorted = taken (c.undo_charge.ensures.content ∙ (λ i. with_change content (c.from_parts-client.ensures i) (discharged (c.quantities.ensures.value i))));
      clients = prefix.0;
      made = omega (arith, c.loop-offer.invariant.made, c.undo_charge.ensures.spends.made);
    }
