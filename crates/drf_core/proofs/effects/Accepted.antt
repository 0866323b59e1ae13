-- What the tables and the sorter hold after an offer is accepted or declined.
use Rattle.std.proofs.Common.{◌≡◌, ℕ, true, List, [], Some, refl, sym, ap, subst, ◌∙◌}
use Rattle.std.specs.Prelude.{max}
use Rattle.std.specs.List.{AllByRecursion}
use Rattle.drf_role.specs.Path.{Path, client_path}
use Rattle.drf_bundle.specs.Bundle.{IsBundle, quantities_of}
use Rattle.drf_bundle.specs.declared.quantities.Entry.{Entry}
use Rattle.drf_rows.specs.Consistent.{IsConsistent}
use Rattle.drf_rows.specs.Cycle.{at_timestamp}
use Rattle.drf_row_laws.proofs.ReleaseLaws.{offer_at-place, held-offer_at, held_where-accepted}
use Rattle.drf_rows.specs.Releases.{without_ended, one_offer}
use Rattle.drf_rows.specs.Holdings.{is_of}
use Rattle.drf_rows.specs.Offers.{CanStart, offer_accepted, offer_declined, filters_with, left_of_offer, offer_at, filters_all}
use Rattle.drf_rows.specs.Step.{effect}
use Rattle.drf_rows.proofs.TaskLaws.{HasAll, units-covers_all}
use Rattle.drf_rows.specs.Tasks.{Start, uses}
use Rattle.drf_rows.specs.declared.event.Accept as accepting
use Rattle.drf_rows.specs.declared.event.Decline as declining
use Rattle.drf_rows.specs.declared.event.Event.TheVariants.{Accept, Decline}
use Rattle.drf_rows.specs.declared.rows.FilterRow.{FilterRow}
use Rattle.drf_rows.specs.declared.rows.OfferRow.{OfferRow}
use Rattle.drf_rows.specs.declared.rows.Rows.{Rows}
use Rattle.drf_sorter.specs.Content.{Content, IsSame, has_client, with_change, refunded, HoldsAt}
use Rattle.drf_sorter.proofs.theorems.SameLaws.{HoldsAt-same, IsSame-between, IsSame-sym, IsSame-with_change}
use Rattle.drf_content.specs.Content.{content_of}
use Rattle.drf_content.proofs.theorems.Ended.{GaveBack, content_of-gave_back, HoldsAt-gave_back}
use Rattle.drf_core.proofs.effects.Ended.{known-client}

-- ---- an offer is accepted

module _ (rows : Rows) (number : ℕ) (o : OfferRow) (starts : List Start) (at refuse_ms : ℕ) (content : Content) (path : Path) (quantities : List Entry)
    (right : IsConsistent rows) (sorted : IsSame content (content_of rows)) (found : offer_at rows number ≡ Some o)
    (bundles : AllByRecursion IsBundle (uses starts)) (can : CanStart rows o starts)
    (joined : path ≡ client_path o.role o.framework) (reported : quantities ≡ quantities_of (left_of_offer o starts)) where
  abbrev new : Rows
  new = offer_accepted (at_timestamp rows at) o starts refuse_ms

  has_all : HasAll o.bundle (uses starts)
  has_all = units-covers_all o.bundle (uses starts) (held-offer_at rows number o right found).bundle bundles can.covered

  gave : GaveBack rows new path quantities
  gave = rw (joined, reported) (record {
    agents = refl;
    frameworks = refl;
    weights = refl;
    out = λ other label. held_where-accepted rows number o starts [] right found (is_of other) label bundles has_all (λ s. refl);
  })

  pub known-accepted : has_client content path ≡ true
  known-accepted = known-client rows o.role o.framework content path sorted joined (held-offer_at rows number o right found).client

  pub held-accepted : HoldsAt content path quantities
  held-accepted =
      HoldsAt-same (content_of rows) content (IsSame-sym content (content_of rows) sorted) path quantities
      (HoldsAt-gave_back rows new path quantities gave)

  pub sorted-accepted : (tables : Rows) (after : Content) → tables ≡ offer_accepted (at_timestamp rows at) o starts refuse_ms
      → after ≡ with_change content path (refunded quantities)
      → IsSame after (content_of tables)
  sorted-accepted tables after same changed =
      IsSame-between after (with_change content path (refunded quantities)) (with_change (content_of rows) path (refunded quantities)) (content_of tables)
      changed (IsSame-with_change content (content_of rows) sorted path (refunded quantities))
      (content_of-gave_back rows new path quantities gave ∙ sym (ap content_of same))

-- ---- an offer is declined

-- the content of the sorter does not depend on filters or the clock
pub sorted-declined : (rows tables : Rows) (filters : List FilterRow) (timestamp : ℕ) (content : Content)
    → IsSame content (content_of rows) → tables ≡ record rows { filters = filters; clock = timestamp } → IsSame content (content_of tables)
unfolding content_of
sorted-declined rows tables filters timestamp content sorted same = subst (IsSame content) (sym (ap content_of same)) sorted

pub rows_declined : (rows middle tables : Rows) (number : ℕ) (o : OfferRow) (at refuse_ms : ℕ) → offer_at rows number ≡ Some o
    → middle ≡ record (at_timestamp rows at) { filters = filters_with (at_timestamp rows at) (filters_all refuse_ms) o o.bundle refuse_ms }
    → tables ≡ without_ended middle (one_offer number)
    → tables ≡ offer_declined (at_timestamp rows at) o refuse_ms
rows_declined rows middle tables number o at refuse_ms found same ended =
    let number_is : number ≡ o.number = sym (offer_at-place rows number o found).1 in
    ended
    ∙ ap (λ (r : Rows). without_ended r (one_offer number)) same
    ∙ (λ i. record (without_ended rows (one_offer (number_is i))) {
      filters = filters_with (at_timestamp rows at) (filters_all refuse_ms) o o.bundle refuse_ms;
      clock = max rows.clock at;
    })

-- ---- the effects

pub effect-accept : (rows tables : Rows) (a : accepting.Accept) (o : OfferRow) → offer_at rows a.offer ≡ Some o
    → tables ≡ offer_accepted (at_timestamp rows a.at) o a.tasks a.refuse_ms → tables ≡ effect rows (Accept a)
unfolding effect
effect-accept rows tables a o at is = rw at is

pub effect-decline : (rows tables : Rows) (d : declining.Decline) (o : OfferRow) → offer_at rows d.offer ≡ Some o
    → tables ≡ offer_declined (at_timestamp rows d.at) o d.refuse_ms → tables ≡ effect rows (Decline d)
unfolding effect
effect-decline rows tables d o at is = rw at is
