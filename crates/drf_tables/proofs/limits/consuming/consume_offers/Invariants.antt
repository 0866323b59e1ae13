use Rattle.std.proofs.Common.{map}
use Rattle.drf_tables.proofs.tables.Names.{holding_of_offer, held_unreserved}
use Rattle.drf_tables.proofs.limits.Counts.{IsPartly}
use Rattle.drf_tables.proofs.limits.consuming.consume_offers.Given as goal

abbrev pub invariant-loop-offer : goal.invariant-loop-offer
invariant-loop-offer l =
    IsPartly l.initial.consumption l.consumption (λ test label. held_unreserved test (map holding_of_offer l.fn.offers) label)
    (λ test label. held_unreserved test (map holding_of_offer l.offer-iterator) label)
