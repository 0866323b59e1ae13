-- Outstanding offers, the filters that they can lead to, and the clock.
use Rattle.std.specs.Prelude.{◌≡◌, ℕ, ◌≤◌, true, List, Option, is_some, max}
use Rattle.std.proofs.Common.{None, Some, refl, sym, ◌∙◌, arith}
use Rattle.drf_bundle.specs.Bundle.{IsBundle}
use Rattle.drf_bundle.specs.declared.resource.Resource.{Resource}
use Rattle.drf_rows.specs.Consistent.{IsFilter, IsConsistent}
use Rattle.drf_rows.specs.Offers.{filter_of, has_offer, offer_at, filtered_until}
use Rattle.drf_row_laws.proofs.ReleaseLaws.{held-offer_at}
use Rattle.drf_rows.specs.declared.limits.TheConstants.{LATEST_TIMESTAMP}
use Rattle.drf_rows.specs.declared.rows.OfferRow.{OfferRow}
use Rattle.drf_rows.specs.declared.rows.Rows.{Rows}

-- a filter of any bundle, with a duration
pub offer_filter : (rows : Rows) (number : ℕ) (o : OfferRow) (bundle : List Resource) (timestamp refuse_ms : ℕ)
    → IsConsistent rows → offer_at rows number ≡ Some o → IsBundle bundle → timestamp ≤ LATEST_TIMESTAMP
    → IsFilter rows.agents rows.frameworks (filter_of o bundle (filtered_until timestamp refuse_ms))
offer_filter rows number o bundle timestamp refuse_ms right found is early =
    let held = held-offer_at rows number o right found in
    record { agent = held.agent; client = held.client; bundle = is; until = omega (arith, early) }

-- an offer with this number is outstanding
pub record IsOffer (rows : Rows) (number : ℕ) : Type 0 where
  pub offer : OfferRow
  pub at : offer_at rows number ≡ Some offer

pub some_offer : (rows : Rows) (number : ℕ) → has_offer rows number ≡ true → IsOffer rows number
some_offer rows number known = by (offer_at rows number) refl known
  where
    by : (found : Option OfferRow) → offer_at rows number ≡ found → is_some found ≡ true → IsOffer rows number
    by None none some = cc
    by (Some o) at some = record { offer = o; at = at }

-- at most one offer has a number
pub same_offer : (rows : Rows) (number : ℕ) (o p : OfferRow) → offer_at rows number ≡ Some o → offer_at rows number ≡ Some p → o ≡ p
same_offer rows number o p one other =
    let e : Some o ≡ Some p = sym one ∙ other in
    cc

-- the clock stays within its range
pub timestamp_early : (rows : Rows) (at timestamp : ℕ) → IsConsistent rows → at ≤ LATEST_TIMESTAMP → timestamp ≡ max rows.clock at → timestamp ≤ LATEST_TIMESTAMP
timestamp_early rows at timestamp right late same =
    let early : rows.clock ≤ LATEST_TIMESTAMP = right.early in
    omega (arith, early, late, same)
