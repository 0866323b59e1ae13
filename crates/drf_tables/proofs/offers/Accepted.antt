-- The rows after an offer is accepted or declined.
use Rattle.std.proofs.Common.{◌≡◌, ℕ, ◌≤◌, Bool, true, false, List, [], ◌∷◌, ◌++◌, Option, Some, map, refl, sym, ap, subst, ◌∙◌, max, if◌then◌else◌, append-nil}
use Rattle.std.specs.Option.{option_map_or}
use Rattle.drf_bundle.proofs.theorems.TakenLaws.{bundle-rest_of_all}
use Rattle.drf_tables.proofs.tables.Names.{IsFilter, IsConsistent, at_timestamp, offer_accepted, filter_of, filters_with, left_of_offer, offer_at, filtered_until, filters_all, filters_rest, task_of, OfferRow, Rows}
use Rattle.drf_rows.specs.Releases.{without_ended, one_offer}
use Rattle.drf_row_laws.proofs.ReleaseLaws.{held-offer_at}
use Rattle.drf_rows.specs.Tasks.{Start, uses}
use Rattle.drf_rows.specs.declared.limits.TheConstants.{LATEST_TIMESTAMP}
use Rattle.drf_rows.specs.declared.rows.FilterRow.{FilterRow}
use Rattle.drf_row_laws.proofs.OfferLaws.{offer_filter}
use Rattle.drf_tables.specs.offers.Ended.{filter_if, with_accepted}

-- ---- an offer is accepted

-- the filter that is set is this one
the_filter : (b : Bool) (filter f : FilterRow) → filter_if b filter ≡ Some f → filter ≡ f
the_filter true filter f same = cc
the_filter false filter f same = cc

pub accept_filter : (rows : Rows) (number : ℕ) (starts : List Start) (o : OfferRow) (filter : Option FilterRow) (b : Bool) (timestamp refuse_ms : ℕ)
    → IsConsistent rows → offer_at rows number ≡ Some o → timestamp ≤ LATEST_TIMESTAMP
    → filter ≡ filter_if b (filter_of o (left_of_offer o starts) (filtered_until timestamp refuse_ms))
    → (f : FilterRow) → filter ≡ Some f → IsFilter rows.agents rows.frameworks f
accept_filter rows number starts o filter b timestamp refuse_ms right found early reported f some =
    subst (IsFilter rows.agents rows.frameworks)
    (the_filter b (filter_of o (left_of_offer o starts) (filtered_until timestamp refuse_ms)) f (sym reported ∙ some))
    (offer_filter rows number o (left_of_offer o starts) timestamp refuse_ms right found
    (bundle-rest_of_all o.bundle (uses starts) (held-offer_at rows number o right found).bundle) early)

push_if : (b : Bool) (filters : List FilterRow) (f : FilterRow)
    → filters ++ option_map_or (λ f. f ∷ []) (filter_if b f) [] ≡ (if b then filters ++ f ∷ [] else filters)
push_if true filters f = refl
push_if false filters f = append-nil filters

pub rows_accepted : (rows tables : Rows) (o : OfferRow) (starts : List Start) (filter : Option FilterRow) (at timestamp refuse_ms : ℕ)
    → timestamp ≡ max rows.clock at
    → filter ≡ filter_if (filters_rest o starts refuse_ms) (filter_of o (left_of_offer o starts) (filtered_until timestamp refuse_ms))
    → tables ≡ record (with_accepted rows o starts filter) { clock = timestamp }
    → tables ≡ offer_accepted (at_timestamp rows at) o starts refuse_ms
rows_accepted rows tables o starts filter at timestamp refuse_ms later reported same =
    let b : Bool = filters_rest o starts refuse_ms in
    let f : FilterRow = filter_of o (left_of_offer o starts) (filtered_until timestamp refuse_ms) in
    let filters : rows.filters ++ option_map_or (λ f. f ∷ []) filter [] ≡ (if b then rows.filters ++ f ∷ [] else rows.filters)
    = ap (λ (o : Option FilterRow). rows.filters ++ option_map_or (λ f. f ∷ []) o []) reported ∙ push_if b rows.filters f in
    let filters_now : (if b then rows.filters ++ f ∷ [] else rows.filters) ≡ filters_with (at_timestamp rows at) b o (left_of_offer o starts) refuse_ms
    = λ i. if b then rows.filters ++ filter_of o (left_of_offer o starts) (filtered_until (later i) refuse_ms) ∷ [] else rows.filters in
    same
    ∙ (λ i. record (without_ended rows (one_offer o.number)) {
      tasks = rows.tasks ++ map (task_of o) starts;
      filters = (filters ∙ filters_now) i;
      clock = later i;
    })

-- ---- an offer is declined

pub rows_refused : (rows tables : Rows) (o : OfferRow) (at timestamp refuse_ms : ℕ) → timestamp ≡ max rows.clock at
    → tables ≡ record rows { filters = filters_with (record rows { clock = timestamp }) (filters_all refuse_ms) o o.bundle refuse_ms; clock = timestamp }
    → tables ≡ record (at_timestamp rows at) { filters = filters_with (at_timestamp rows at) (filters_all refuse_ms) o o.bundle refuse_ms }
rows_refused rows tables o at timestamp refuse_ms later same =
    same
    ∙ (λ i. record rows {
      filters = filters_with (record rows { clock = later i }) (filters_all refuse_ms) o o.bundle refuse_ms;
      clock = later i;
    })
