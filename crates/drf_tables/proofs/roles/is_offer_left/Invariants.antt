use Rattle.std.proofs.Common.{◌≡◌, map}
use Rattle.std.specs.List.{list_any}
use Rattle.drf_rows.specs.Holdings.{holding_of_offer}
use Rattle.drf_rows.specs.Roles.{is_left}
use Rattle.drf_tables.proofs.roles.is_offer_left.Given as goal

abbrev pub invariant-loop-offer : goal.invariant-loop-offer
invariant-loop-offer l =
    list_any (λ h. is_left l.framework l.roles h.client) (map holding_of_offer l.offer-iterator)
    ≡ list_any (λ h. is_left l.framework l.roles h.client) (map holding_of_offer l.fn.offers)
