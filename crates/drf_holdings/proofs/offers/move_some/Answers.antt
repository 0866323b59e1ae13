use Rattle.std.proofs.Common.{◌≡◌, ◌∷◌, [], ◌++◌, List, reverse, sym, ap, ◌∙◌, append_assoc, append-nil, rules}
use Rattle.drf_rows.specs.declared.rows.OfferRow.{OfferRow}
use Rattle.drf_holdings.specs.Listed.{offer_number}
use Rattle.drf_holdings.proofs.Lists.{none_in}
use Rattle.drf_holdings.proofs.Moved.{whole_next, rising_next}
use Rattle.drf_holdings.proofs.offers.move_some.Goals as goal

pub loop-offer-init : goal.loop-offer-init
loop-offer-init c = record {
  all = search rules;
  prefix = ([], sym (append-nil c.args.rows.now));
  room = search rules;
}

pub push-requires : goal.push-requires
push-requires c =
    let at = c.loop-offer in
    rising_next offer_number at.rows at.offers.items c.pop.new.self.items (c.args.rows.now ++ reverse c.args.offers.now.items) c.in-Some.offer
    c.in-Some.ensures.items at.invariant.all c.requires

pub loop-offer-preserved : goal.loop-offer-preserved
loop-offer-preserved c =
    let at = c.loop-offer in
    let left = c.pop.new.self.items in
    let offer : OfferRow = c.in-Some.offer in
    let put : c.push.new.self ≡ at.rows ++ offer ∷ [] = c.in_default-push.ensures.ok in
    record {
      all = ap (λ (os : List OfferRow). os ++ reverse left) put ∙ sym (whole_next at.rows at.offers.items left offer c.in-Some.ensures.items) ∙ at.invariant.all;
      prefix = (
        at.invariant.prefix.0 ++ offer ∷ [],
        put ∙ ap (λ (os : List OfferRow). os ++ offer ∷ []) at.invariant.prefix.1 ∙ append_assoc c.args.rows.now at.invariant.prefix.0 (offer ∷ []),
      );
      room = c.pop.ensures.capacity ∙ at.invariant.room;
    }

pub returns-in-Err-clause-all : goal.returns-in-Err-clause-all
returns-in-Err-clause-all c =
    let at = c.loop-offer in
    let left = c.pop.new.self.items in
    let back : c.push_reserved.new.self.items ≡ at.offers.items =
    c.push_reserved.ensures.items ∙ ap (λ (o : OfferRow). left ++ o ∷ []) c.in-Err.ensures.back ∙ sym c.in-Some.ensures.items in
    (λ i. c.in-Err.ensures.err i ++ reverse (back i)) ∙ at.invariant.all

pub returns-in-Err-clause-prefix : goal.returns-in-Err-clause-prefix
returns-in-Err-clause-prefix c = (c.loop-offer.invariant.prefix.0, c.in-Err.ensures.err ∙ c.loop-offer.invariant.prefix.1)

pub returns-in-Err-clause-room : goal.returns-in-Err-clause-room
returns-in-Err-clause-room c = c.push_reserved.ensures.capacity ∙ c.pop.ensures.capacity ∙ c.loop-offer.invariant.room

pub returns-clause-all : goal.returns-clause-all
returns-clause-all c =
    let at = c.loop-offer in
    let left = c.pop.new.self.items in
    let same : at.offers.items ≡ left = c.in_default.ensures.items ∙ append-nil left in
    ap (λ (os : List OfferRow). at.rows ++ reverse os) (sym same) ∙ at.invariant.all

pub returns-clause-prefix : goal.returns-clause-prefix
returns-clause-prefix c = c.loop-offer.invariant.prefix

pub returns-clause-moved : goal.returns-clause-moved
returns-clause-moved c =
    let left = c.pop.new.self in
    none_in left.items (sym left.ok.0 ∙ c.in_default.ensures.cases.1)

pub returns-clause-room : goal.returns-clause-room
returns-clause-room c = c.pop.ensures.capacity ∙ c.loop-offer.invariant.room
