use Rattle.std.proofs.Common.{◌≡◌, ◌-◌, length, map, filter, sym, ap, subst, ◌∙◌}
use Rattle.drf_holdings.specs.Listed.{numbers_in, offer_number, offer_of}
use Rattle.drf_holdings.specs.Rising.{IsRising}
use Rattle.drf_holdings.proofs.Removed.{none_by, taken_by}
use Rattle.drf_holdings.proofs.offers.OfferTable.take_of.Goals as goal

pub returns-in_err-number : goal.returns-in_err-number
returns-in_err-number c =
    let test = offer_of c.args.framework.now in
    let ns = numbers_in c.self.inside.index.frameworks c.args.framework.now in
    let listed : ns ≡ map offer_number (filter test c.args.self.now) =
    c.self.invariant.listed.frameworks c.args.framework.now ∙ ap (λ os. map offer_number (filter test os)) c.self.view_is in
    rw c.from_residual.ensures (none_by offer_number test c.args.self.now ns listed (sym c.in_err-number.ensures))

pub returns : goal.returns
returns c =
    let test = offer_of c.args.framework.now in
    let ns = numbers_in c.self.inside.index.frameworks c.args.framework.now in
    let listed : ns ≡ map offer_number (filter test c.args.self.now) =
    c.self.invariant.listed.frameworks c.args.framework.now ∙ ap (λ os. map offer_number (filter test os)) c.self.view_is in
    let rising : IsRising (map offer_number c.args.self.now) = subst (λ os. IsRising (map offer_number os)) c.self.view_is c.self.invariant.rising in
    taken_by offer_number test c.args.self.now ns listed test (λ o here. here) c.in_ok-number.number (length ns - 1) c.take.new.self rising
    (sym c.in_ok-number.ensures) c.take.result c.take.ensures.taken
