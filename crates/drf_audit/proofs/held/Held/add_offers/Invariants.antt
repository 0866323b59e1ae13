use Rattle.std.proofs.Common.{◌≡◌, ◌++◌, map, drop}
use Rattle.drf_role.specs.Text.{Text}
use Rattle.drf_rows.specs.Holdings.{holding_of_offer, parts_on}
use Rattle.drf_audit.specs.Held.{parts_in}
use Rattle.drf_audit.proofs.held.Held.add_offers.Given as goal

abbrev pub invariant-loop-offer : goal.invariant-loop-offer
invariant-loop-offer l =
    (agent : Text) → parts_in l.self agent ++ parts_on agent (map holding_of_offer (drop l.offer-index l.offers))
    ≡ parts_in l.fn.self agent ++ parts_on agent (map holding_of_offer l.offers)
