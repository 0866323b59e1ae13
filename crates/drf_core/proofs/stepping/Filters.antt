-- How many filters there are, including expired ones.
use Rattle.std.proofs.Common.{◌≡◌, ℕ, ◌+◌, ◌≤◌, Bool, true, false, List, Option, Some, None, [], ◌∷◌, length, ap, inl, inr, arith}
use Rattle.std.specs.Prelude.{nat_le, not, filter}
use Rattle.std.specs.Option.{option_map_or}
use Rattle.std.proofs.lemmas.Bool.{cases_Bool, leb-true, leb-false}
use Rattle.std.proofs.lemmas.List.{length-append}
use Rattle.drf_role.specs.Text.{same_text}
use Rattle.drf_bundle.specs.declared.resource.Resource.{Resource}
use Rattle.drf_rows.specs.Cycle.{at_timestamp}
use Rattle.drf_rows.specs.Filters.{is_of_client, is_on_agent, number_in_force}
use Rattle.drf_rows.specs.LimitNumbers.{LimitNumbers, IsWithinCeilings}
use Rattle.drf_rows.specs.Offers.{filters_all, filters_rest, filter_of, filtered_until, filters_with, left_of_offer, offer_accepted, offer_at, offer_declined}
use Rattle.drf_rows.specs.Roles.{is_of_left}
use Rattle.drf_rows.specs.Step.{effect, live_rows}
use Rattle.drf_row_laws.proofs.FilterLaws.{number_in_force-later}
use Rattle.drf_bundle.proofs.ListLaws.{length-filter_le}
use Rattle.drf_row_laws.proofs.OthersLaws.{cycle_only_offers}
use Rattle.drf_rows.specs.declared.event.Accept as accepting
use Rattle.drf_rows.specs.declared.event.Decline as declining
use Rattle.drf_rows.specs.declared.event.Event.{Event}
use Rattle.drf_rows.specs.declared.event.Event.TheVariants.{RemoveAgent, SetFramework, RemoveFramework, Accept, Decline, Revive, Cycle}
use Rattle.drf_rows.specs.declared.rows.FilterRow.{FilterRow}
use Rattle.drf_rows.specs.declared.rows.OfferRow.{OfferRow}
use Rattle.drf_rows.specs.declared.rows.Rows.{Rows}
use Rattle.drf_laws.specs.BoundLaws.{AreWithin}

-- if all filters are in force whenever there are 65,536 or more, there are at most 65,536
pub few_filters : (limits : LimitNumbers) (rows : Rows) → IsWithinCeilings limits → AreWithin limits (live_rows rows)
    → (65536 ≤ length rows.filters → number_in_force rows.clock rows.filters ≡ length rows.filters) → length rows.filters ≤ 65536
few_filters limits rows ceilings within swept = elim (cases_Bool (nat_le 65536 (length rows.filters))) [
  | inl many ↦
      omega (
        arith,
        swept (leb-true 65536 (length rows.filters) many),
        number_in_force-later rows.clock rows.clock rows.filters (omega arith),
        within.filters_in_force,
        ceilings.filters.1,
      )
  | inr few ↦ omega (arith, leb-false 65536 (length rows.filters) few)
]

no_more : (n : ℕ) → n ≤ n + 1
no_more n = omega arith

module _ (rows : Rows) where
  -- removing filters adds none
  left : (test : FilterRow → Bool) → length (filter test rows.filters) ≤ length rows.filters + 1
  left test = omega (arith, length-filter_le test rows.filters)

  -- setting a filter adds at most one
  one_more : (filtered : Bool) (o : OfferRow) (bundle : List Resource) (refuse_ms : ℕ)
      → length (filters_with rows filtered o bundle refuse_ms) ≤ length rows.filters + 1
  one_more true o bundle refuse_ms = omega (arith, length-append rows.filters (filter_of o bundle (filtered_until rows.clock refuse_ms) ∷ []))
  one_more false o bundle refuse_ms = no_more (length rows.filters)

filters-accepted : (rows : Rows) (a : accepting.Accept) (found : Option OfferRow)
    → length (option_map_or (λ o. offer_accepted (at_timestamp rows a.at) o a.tasks a.refuse_ms) found rows).filters ≤ length rows.filters + 1
filters-accepted rows a None = no_more (length rows.filters)
filters-accepted rows a (Some o) = one_more (at_timestamp rows a.at) (filters_rest o a.tasks a.refuse_ms) o (left_of_offer o a.tasks) a.refuse_ms

filters-declined : (rows : Rows) (d : declining.Decline) (found : Option OfferRow)
    → length (option_map_or (λ o. offer_declined (at_timestamp rows d.at) o d.refuse_ms) found rows).filters ≤ length rows.filters + 1
filters-declined rows d None = no_more (length rows.filters)
filters-declined rows d (Some o) = one_more (at_timestamp rows d.at) (filters_all d.refuse_ms) o o.bundle d.refuse_ms

-- an event adds at most one filter
pub one_filter_more : (rows : Rows) (event : Event) → length (effect rows event).filters ≤ length rows.filters + 1
unfolding effect
one_filter_more rows (RemoveAgent agent) = left rows (λ f. not (is_on_agent agent f))
one_filter_more rows (SetFramework framework roles) = left rows (λ f. not (is_of_left framework roles f))
one_filter_more rows (RemoveFramework framework) = left rows (λ f. not (same_text f.framework framework))
one_filter_more rows (Accept a) = filters-accepted rows a (offer_at rows a.offer)
one_filter_more rows (Decline d) = filters-declined rows d (offer_at rows d.offer)
one_filter_more rows (Revive framework role) = left rows (λ f. not (is_of_client (record { role = role; framework = framework }) f))
one_filter_more rows (Cycle at) = omega (arith, ap (λ (r : Rows). length r.filters) (cycle_only_offers rows at).nothing_else)
one_filter_more rows event = no_more (length rows.filters)
