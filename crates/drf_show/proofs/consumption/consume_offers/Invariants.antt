use Rattle.std.proofs.Common.{◌≡◌, ◌+◌, Bool, drop, map}
use Rattle.drf_role.specs.Text.{Text}
use Rattle.drf_role.specs.Path.{Path}
use Rattle.drf_rows.specs.Holdings.{holding_of_offer}
use Rattle.drf_rows.specs.Quota.{held_unreserved}
use Rattle.drf_gates.specs.quota.Allowance.{used_where}
use Rattle.drf_show.proofs.consumption.consume_offers.Given as goal

-- what is counted, and what remains, is all
abbrev pub invariant-loop-offer : goal.invariant-loop-offer
invariant-loop-offer l =
    (test : Path → Bool) (label : Text) → used_where test l.consumption label + held_unreserved test (map holding_of_offer (drop l.offer-index l.offers)) label
    ≡ used_where test l.initial.consumption label + held_unreserved test (map holding_of_offer l.offers) label
