use Rattle.std.proofs.Common.{◌≡◌, ◌++◌, map, drop}
use Rattle.drf_role.specs.Text.{Text}
use Rattle.drf_rows.specs.Holdings.{holding_of_offer}
use Rattle.drf_show.specs.Had.{parts_for, parts_in}
use Rattle.drf_show.proofs.had.Had.offers_by_framework.Given as goal

abbrev pub invariant-loop-offer : goal.invariant-loop-offer
invariant-loop-offer l =
    (framework : Text) → parts_in l.had framework ++ parts_for framework (map holding_of_offer (drop l.offer-index l.offers)) ≡ parts_for framework (map holding_of_offer l.offers)
