use Rattle.std.proofs.Common.{◌≡◌, ◌+◌, ◌≤◌, ◌∷◌, [], ◌++◌, List, length, take, reverse, sym, ap, ◌∙◌, arith, length-append}
use Rattle.std.proofs.lemmas.List.{take-append-le}
use Rattle.drf_rows.specs.declared.rows.OfferRow.{OfferRow}
use Rattle.drf_holdings.proofs.Moved.{whole_next}
use Rattle.drf_holdings.proofs.offers.move_back.Goals as goal

pub loop-rows-preserved : goal.loop-rows-preserved
loop-rows-preserved c =
    let at = c.loop-rows in
    let left : List OfferRow = c.pop.new.self in
    let offer : OfferRow = c.in-Some.offer in
    let split : at.rows ≡ left ++ offer ∷ [] = c.in-Some.ensures.items in
    let long : length at.rows ≡ length left + 1 = ap (λ (os : List OfferRow). length os) split ∙ length-append left (offer ∷ []) in
    let within : c.args.count ≤ length left = omega (arith, c.loop-rows-test.true, long) in
    record {
      within = within;
      rows = sym (take-append-le c.args.count left (offer ∷ []) within) ∙ ap (take c.args.count) (sym split) ∙ at.invariant.rows;
      all = whole_next left c.push_reserved.new.self.items at.offers.items offer c.push_reserved.ensures.items
          ∙ ap (λ (os : List OfferRow). os ++ reverse at.offers.items) (sym split) ∙ at.invariant.all;
      room = omega (arith, long, at.invariant.room, c.push_reserved.ensures.len, c.push_reserved.ensures.capacity);
    }

pub returns-in_default : goal.returns-in_default
returns-in_default c = absurd (omega (arith, c.loop-rows-test.true, ap (λ (os : List OfferRow). length os) c.in_default.ensures.none.0))
