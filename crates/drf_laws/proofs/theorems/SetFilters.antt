-- The filters that an accept and a decline set.
use Rattle.std.proofs.Common.{◌≡◌, ℕ, ◌≤◌, max, Bool, true, false, not, ◌&&◌, ◌||◌, List, [], ◌∷◌, Option, Some, refl, sym, ap, ◌∙◌, inl, inr, arith, nat_lt, if◌then◌else◌}
use Rattle.std.specs.Option.{option_map_or}
use Rattle.std.proofs.lemmas.Bool.{cases_Bool, ltb-false, lt-ltb, le-ltb}
use Rattle.std.proofs.lemmas.List.Folds.{list_any-append}
use Rattle.drf_role.specs.Text.{Text}
use Rattle.drf_bundle.proofs.theorems.TakenLaws.{only_rest_of_all, bundle-rest_of_all, joined-rest_of_all}
use Rattle.drf_bundle.specs.declared.resource.Resource.{Resource}
use Rattle.drf_rows.specs.Client.{Client}
use Rattle.drf_rows.specs.Consistent.{IsConsistent}
use Rattle.drf_rows.specs.Cycle.{at_timestamp}
use Rattle.drf_rows.specs.Filters.{holds_back, is_held_back}
use Rattle.drf_rows.specs.Offers.{offer_at, is_empty, left_of_offer, offer_accepted, offer_declined}
use Rattle.drf_rows.specs.Step.{effect}
use Rattle.drf_rows.specs.Tasks.{uses}
use Rattle.drf_laws.proofs.ConsumptionLaws.{covered-accept}
use Rattle.drf_row_laws.proofs.ReleaseLaws.{held-offer_at}
use Rattle.drf_laws.specs.KeptLimitLaws.{IsGivenBundles}
use Rattle.drf_rows.proofs.TaskLaws.{units-covers_all}
use Rattle.drf_rows.specs.declared.event.Accept as accepting
use Rattle.drf_rows.specs.declared.event.Decline as declining
use Rattle.drf_rows.specs.declared.event.Event.TheVariants.{Accept, Decline}
use Rattle.drf_rows.specs.declared.rows.FilterRow.{FilterRow}
use Rattle.drf_rows.specs.declared.rows.OfferRow.{OfferRow}
use Rattle.drf_rows.specs.declared.rows.Rows.{Rows}
use Rattle.drf_laws.specs.FilterLaws.{one_more, end_of, IsLeft, is_filtered, DeclinedSetsFilter, AcceptedSetsFilter, DeclinedIsHeldBack, LeftIsHeldBack, SomeRestIsLeft}

-- ---- the filters after the event

filters-declined : (rows : Rows) (d : declining.Decline) (o : OfferRow) → offer_at rows d.offer ≡ Some o
    → (effect rows (Decline d)).filters
    ≡ (if nat_lt 0 d.refuse_ms then one_more rows o o.bundle (end_of rows d.at d.refuse_ms) else rows.filters)
unfolding effect
filters-declined rows d o found =
    ap (λ (f : Option OfferRow). (option_map_or (λ o. offer_declined (at_timestamp rows d.at) o d.refuse_ms) f rows).filters) found

-- the bundle of `IsLeft` is what the definition computes
left_is : (rows : Rows) (a : accepting.Accept) (o : OfferRow) (left : List Resource) → IsConsistent rows → IsGivenBundles (Accept a)
    → IsLeft rows a o left → left ≡ left_of_offer o a.tasks
left_is rows a o left consistent given is =
    only_rest_of_all left o.bundle (uses a.tasks) is.bundle (held-offer_at rows a.offer o consistent is.at).bundle given is.joins

pub some_rest_is_left : SomeRestIsLeft
some_rest_is_left limits rows a o consistent given found accepted =
    let is = (held-offer_at rows a.offer o consistent found).bundle in
    let covered = units-covers_all o.bundle (uses a.tasks) is given (covered-accept limits rows a o found accepted) in (
      left_of_offer o a.tasks,
      record {
        at = found;
        bundle = bundle-rest_of_all o.bundle (uses a.tasks) is;
        joins = joined-rest_of_all o.bundle (uses a.tasks) is given covered;
      },
    )

filters-accepted : (rows : Rows) (a : accepting.Accept) (o : OfferRow) (left : List Resource) → IsConsistent rows → IsGivenBundles (Accept a)
    → IsLeft rows a o left
    → (effect rows (Accept a)).filters
    ≡ (if nat_lt 0 a.refuse_ms && not (is_empty left) then one_more rows o left (end_of rows a.at a.refuse_ms) else rows.filters)
unfolding effect
filters-accepted rows a o left consistent given is =
    let same = sym (left_is rows a o left consistent given is) in
    ap (λ (f : Option OfferRow). (option_map_or (λ o. offer_accepted (at_timestamp rows a.at) o a.tasks a.refuse_ms) f rows).filters) is.at
    ∙ (λ i. if nat_lt 0 a.refuse_ms && not (is_empty (same i)) then one_more rows o (same i) (end_of rows a.at a.refuse_ms) else rows.filters)

-- ---- the filter that is set

pub declined_sets_filter : DeclinedSetsFilter
declined_sets_filter rows d o found =
    let after = filters-declined rows d o found in (
      λ some. let b = lt-ltb 0 d.refuse_ms some in rw b at after,
      λ none. let b : nat_lt 0 d.refuse_ms ≡ false = ap (nat_lt 0) none in rw b at after,
    )

pub accepted_sets_filter : AcceptedSetsFilter
accepted_sets_filter rows a o left consistent given is =
    let after = filters-accepted rows a o left consistent given is in (
      λ some filled. let b = lt-ltb 0 a.refuse_ms some in rw (b, filled) at after,
      λ none. let b : nat_lt 0 a.refuse_ms ≡ false = ap (nat_lt 0) none in rw b at after,
      λ empty. by (nat_lt 0 a.refuse_ms) left empty after,
    )
  where
    by : (b : Bool) (bundle : List Resource) → is_empty bundle ≡ true
        → (effect rows (Accept a)).filters
        ≡ (if b && not (is_empty bundle) then one_more rows o bundle (end_of rows a.at a.refuse_ms) else rows.filters)
        → (effect rows (Accept a)).filters ≡ rows.filters
    by true bundle empty after = rw empty at after
    by false bundle empty after = after

-- ---- what filters cover then

or_none : (b : Bool) → b ≡ (b || false)
or_none true = refl
or_none false = refl

module _ (rows : Rows) (o : OfferRow) (refused : List Resource) (at refuse_ms timestamp : ℕ) (client : Client) (agent : Text) (bundle : List Resource)
    (late : max rows.clock at ≤ timestamp) where
  abbrev until : ℕ
  until = end_of rows at refuse_ms

  abbrev before : Bool
  before = is_held_back rows.filters timestamp client agent bundle

  -- with one more filter
  held_back-more : is_held_back (one_more rows o refused until) timestamp client agent bundle
      ≡ (before || is_filtered o refused until timestamp client agent bundle)
  held_back-more =
      let f : FilterRow = record { framework = o.framework; role = o.role; agent = o.agent; bundle = refused; until = until } in
      list_any-append (holds_back timestamp client agent bundle) rows.filters (f ∷ [])
      ∙ ap (λ (b : Bool). before || b) (sym (or_none (is_filtered o refused until timestamp client agent bundle)))

  -- a filter with `refuse_ms` 0 covers nothing
  over : nat_lt 0 refuse_ms ≡ false → is_filtered o refused until timestamp client agent bundle ≡ false
  over none =
      let zero : refuse_ms ≤ 0 = ltb-false 0 refuse_ms none in
      let past : nat_lt timestamp until ≡ false = le-ltb timestamp until (omega (arith, zero, late)) in
      rw past

  held_back_then : (set : Bool) → is_held_back (if nat_lt 0 refuse_ms && set then one_more rows o refused until else rows.filters) timestamp client agent bundle
      ≡ (before || (set && is_filtered o refused until timestamp client agent bundle))
  held_back_then false = elim (cases_Bool (nat_lt 0 refuse_ms)) [
    | inl some ↦ rw some (or_none before)
    | inr none ↦ rw none (or_none before)
  ]
  held_back_then true = elim (cases_Bool (nat_lt 0 refuse_ms)) [
    | inl some ↦ rw some held_back-more
    | inr none ↦ rw (none, over none) (or_none before)
  ]

pub declined_is_held_back : DeclinedIsHeldBack
declined_is_held_back rows d o timestamp client agent bundle found late =
    ap (λ (fs : List FilterRow). is_held_back fs timestamp client agent bundle) (filters-declined rows d o found ∙ by (nat_lt 0 d.refuse_ms))
    ∙ held_back_then rows o o.bundle d.at d.refuse_ms timestamp client agent bundle late true
  where
    by : (b : Bool) → (if b then one_more rows o o.bundle (end_of rows d.at d.refuse_ms) else rows.filters)
        ≡ (if b && true then one_more rows o o.bundle (end_of rows d.at d.refuse_ms) else rows.filters)
    by true = refl
    by false = refl

pub left_is_held_back : LeftIsHeldBack
left_is_held_back rows a o left timestamp client agent bundle consistent given is late =
    ap (λ (fs : List FilterRow). is_held_back fs timestamp client agent bundle) (filters-accepted rows a o left consistent given is)
    ∙ held_back_then rows o left a.at a.refuse_ms timestamp client agent bundle late (not (is_empty left))
