-- Which filters an accept and a decline set: for which client, on which agent, with which bundle, and until when.
use Rattle.std.specs.Prelude.{◌≡◌, ℕ, ◌+◌, ◌<◌, ◌≤◌, min, max, Bool, true, false, not, ◌&&◌, ◌||◌, List, [], ◌∷◌, ◌++◌, Some, None, nat_lt}
use Rattle.drf_role.specs.Text.{Text, same_text}
use Rattle.drf_role.specs.Path.{same_path}
use Rattle.drf_bundle.specs.Bundle.{IsBundle, covers}
use Rattle.drf_bundle.specs.Taken.{joined}
use Rattle.drf_bundle.specs.declared.resource.Resource.{Resource}
use Rattle.drf_rows.specs.Client.{Client}
use Rattle.drf_rows.specs.Consistent.{IsConsistent}
use Rattle.drf_rows.specs.Filters.{is_held_back}
use Rattle.drf_rows.specs.LimitNumbers.{LimitNumbers}
use Rattle.drf_rows.specs.Offers.{offer_at, is_empty}
use Rattle.drf_rows.specs.Step.{refusal_of, effect}
use Rattle.drf_rows.specs.Tasks.{uses}
use Rattle.drf_laws.specs.KeptLimitLaws.{IsGivenBundles}
use Rattle.drf_rows.specs.declared.event.Accept as accepting
use Rattle.drf_rows.specs.declared.event.Decline as declining
use Rattle.drf_rows.specs.declared.event.Event.TheVariants.{Accept, Decline}
use Rattle.drf_rows.specs.declared.rows.FilterRow.{FilterRow}
use Rattle.drf_rows.specs.declared.rows.OfferRow.{OfferRow}
use Rattle.drf_rows.specs.declared.rows.Rows.{Rows}

-- ---- the filter that is set

-- one more filter is added last: it belongs to the client of the offer, and is on its agent
abbrev pub one_more : Rows → OfferRow → List Resource → ℕ → List FilterRow
one_more rows o bundle until =
    rows.filters ++ record { framework = o.framework; role = o.role; agent = o.agent; bundle = bundle; until = until } ∷ []

-- the end of the filter: `refuse_ms` after the event, at most 365 days; an event is never before the clock
abbrev pub end_of : Rows → ℕ → ℕ → ℕ
end_of rows at refuse_ms = max rows.clock at + min refuse_ms 31536000000

-- a decline sets a filter with the whole offer, and none if `refuse_ms` is 0
abbrev pub DeclinedSetsFilter : Type 0
DeclinedSetsFilter =
    (rows : Rows) (d : declining.Decline) (o : OfferRow)
    → offer_at rows d.offer ≡ Some o
    → let after : Rows = effect rows (Decline d) in
    (0 < d.refuse_ms → after.filters ≡ one_more rows o o.bundle (end_of rows d.at d.refuse_ms))
    × (d.refuse_ms ≡ 0 → after.filters ≡ rows.filters)

-- the bundle is the rest of the offer: together with the parts of the tasks it joins to the whole offer
pub record IsLeft (rows : Rows) (a : accepting.Accept) (o : OfferRow) (left : List Resource) : Type 0 where
  pub at : offer_at rows a.offer ≡ Some o
  pub bundle : IsBundle left
  pub joins : joined left (uses a.tasks) ≡ Some o.bundle

-- every accepted `accept` leaves such a bundle, which can be empty
abbrev pub SomeRestIsLeft : Type 0
SomeRestIsLeft =
    (limits : LimitNumbers) (rows : Rows) (a : accepting.Accept) (o : OfferRow)
    → IsConsistent rows
    → IsGivenBundles (Accept a)
    → offer_at rows a.offer ≡ Some o
    → refusal_of limits rows (Accept a) ≡ None
    → (left : List Resource) × IsLeft rows a o left

-- an accept sets a filter with the rest, and none if `refuse_ms` is 0 or nothing is left
abbrev pub AcceptedSetsFilter : Type 0
AcceptedSetsFilter =
    (rows : Rows) (a : accepting.Accept) (o : OfferRow) (left : List Resource)
    → IsConsistent rows
    → IsGivenBundles (Accept a)
    → IsLeft rows a o left
    → let after : Rows = effect rows (Accept a) in
    (0 < a.refuse_ms → is_empty left ≡ false → after.filters ≡ one_more rows o left (end_of rows a.at a.refuse_ms))
    × (a.refuse_ms ≡ 0 → after.filters ≡ rows.filters)
    × (is_empty left ≡ true → after.filters ≡ rows.filters)

-- ---- what filters cover then

-- until that time, the client of the offer is not offered on the agent of the offer what the bundle covers
abbrev pub is_filtered : OfferRow → List Resource → ℕ → ℕ → Client → Text → List Resource → Bool
is_filtered o refused until timestamp client agent bundle =
    nat_lt timestamp until
    && ((same_path o.role client.role && same_text o.framework client.framework) && (same_text o.agent agent && covers refused bundle))

-- after a decline, filters cover exactly this and what they covered before
abbrev pub DeclinedIsHeldBack : Type 0
DeclinedIsHeldBack =
    (rows : Rows) (d : declining.Decline) (o : OfferRow) (timestamp : ℕ) (client : Client) (agent : Text) (bundle : List Resource)
    → offer_at rows d.offer ≡ Some o
    → max rows.clock d.at ≤ timestamp
    → is_held_back (effect rows (Decline d)).filters timestamp client agent bundle
    ≡ (is_held_back rows.filters timestamp client agent bundle
    || is_filtered o o.bundle (end_of rows d.at d.refuse_ms) timestamp client agent bundle)

-- after an accept, filters cover exactly the rest of the offer (if anything is) and what they covered before
abbrev pub LeftIsHeldBack : Type 0
LeftIsHeldBack =
    (rows : Rows) (a : accepting.Accept) (o : OfferRow) (left : List Resource) (timestamp : ℕ) (client : Client) (agent : Text) (bundle : List Resource)
    → IsConsistent rows
    → IsGivenBundles (Accept a)
    → IsLeft rows a o left
    → max rows.clock a.at ≤ timestamp
    → is_held_back (effect rows (Accept a)).filters timestamp client agent bundle
    ≡ (is_held_back rows.filters timestamp client agent bundle
    || (not (is_empty left) && is_filtered o left (end_of rows a.at a.refuse_ms) timestamp client agent bundle))
