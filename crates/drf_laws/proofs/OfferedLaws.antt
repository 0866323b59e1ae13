-- To whom a cycle makes offers, and with which numbers.
use Rattle.std.specs.Prelude.{◌≡◌, ℕ, zero, suc, ◌+◌, Bool, true, false, not, ◌||◌, List, [], ◌∷◌, ◌++◌, length, map, filter, drop, Option, Some, None}
use Rattle.std.specs.List.{list_all, list_any, flat_map, AllByRecursion}
use Rattle.std.specs.Option.{option_map_or}
use Rattle.std.proofs.Common.{refl, sym, ap, subst, ◌∙◌, inl, inr}
use Rattle.std.proofs.lemmas.Bool.{cases_Bool, and_parts, not-true}
use Rattle.std.proofs.lemmas.List.{map-append, append-nil, append_assoc}
use Rattle.std.proofs.Math.Seq.{drop-append_seam}
use Rattle.drf_role.specs.Path.{same_path}
use Rattle.drf_bundle.specs.declared.resource.Resource.{Resource}
use Rattle.drf_rows.specs.LimitNumbers.{LimitNumbers}
use Rattle.drf_rows.specs.Client.{Client, path_of}
use Rattle.drf_rows.specs.Share.{Standing, stands_before}
use Rattle.drf_rows.specs.Holdings.{holding_of_offer}
use Rattle.drf_rows.specs.Held.{client_of, active_clients, standing_of}
use Rattle.drf_rows.specs.Filters.{is_held_back}
use Rattle.drf_rows.specs.Cycle.{is_allocatable, is_grantable, new_offer, with_offer, first_of, without, serving_order, turns, at_timestamp, cycle}
use Rattle.drf_row_laws.proofs.CycleLaws.{active_clients-with_offer}
use Rattle.drf_bundle.proofs.ListLaws.{each_append, each_map, each_filter, each_find, each_true, any_fails}
use Rattle.drf_rows.specs.Step.{refusal_of, effect, answer, line_reported, new_offers, rows_after, rows_after_all, reply_to, replies_to}
use Rattle.drf_row_laws.proofs.FrameLaws.{its_part, Any, turns_keep, only_changed}
use Rattle.drf_row_laws.proofs.LiveLaws.{kept-turns}
use Rattle.drf_row_laws.specs.LifeLaws.{is_same_client, SuppressedIsNotOffered, FilteredIsNotOffered, CountUp, lines_reported, NumbersAreNew}
use Rattle.drf_rows.specs.declared.event.Event.{Event}
use Rattle.drf_rows.specs.declared.event.Event.TheVariants.{Cycle}
use Rattle.drf_rows.specs.declared.reply.OfferLine.{OfferLine}
use Rattle.drf_rows.specs.declared.reply.Refusal.{Refusal}
use Rattle.drf_rows.specs.declared.reply.Reply.{Reply}
use Rattle.drf_rows.specs.declared.reply.Reply.TheVariants.{Refused}
use Rattle.drf_rows.specs.declared.rows.AgentRow.{AgentRow}
use Rattle.drf_rows.specs.declared.rows.ClientRow.{ClientRow}
use Rattle.drf_rows.specs.declared.rows.FrameworkRow.{FrameworkRow}
use Rattle.drf_rows.specs.declared.rows.OfferRow.{OfferRow}
use Rattle.drf_rows.specs.declared.rows.Rows.{Rows}

-- ---- numbers that count up

count_up-append : (first : ℕ) (ns ms : List ℕ) (middle next : ℕ) → CountUp first ns middle → CountUp middle ms next → CountUp first (ns ++ ms) next
count_up-append first [] ms middle next here there = subst (λ (n : ℕ). CountUp n ms next) here there
count_up-append first (n ∷ ns) ms middle next here there = (here.0, count_up-append (first + 1) ns ms middle next here.1 there)

-- ---- which clients are tried

is_first : Standing → List Client → Client → Bool
is_first s clients c = list_all (λ d. same_path (path_of c) (path_of d) || stands_before s (path_of c) (path_of d)) clients

pub each_served : (P : Client → Type 0) (s : Standing) (n : ℕ) (clients : List Client) → AllByRecursion P clients → AllByRecursion P (serving_order s n clients)
unfolding is_first
each_served P s zero clients all = tt
each_served P s (suc n) clients all = by (first_of s clients) refl (each_served P s n)
  where
    by : (first : Option Client) → first_of s clients ≡ first → ((cs : List Client) → AllByRecursion P cs → AllByRecursion P (serving_order s n cs))
        → AllByRecursion P (option_map_or (λ c. c ∷ serving_order s n (without c clients)) first [])
    by None found later = tt
    by (Some c) found later = (
      each_find P (is_first s clients) clients c all found,
      later (without c clients) (each_filter P (λ d. not (same_path (path_of c) (path_of d))) clients all),
    )

-- ---- the offers of a cycle

-- a filter in force covers the offer
abbrev is_stopped : Rows → OfferRow → Bool
is_stopped rows o = is_held_back rows.filters rows.clock (holding_of_offer o).client o.agent o.bundle

-- no filter covers what a client is granted
not_stopped : (rows : Rows) (agent : AgentRow) (client : Client) (bundle : List Resource) → is_grantable rows agent client bundle ≡ true
    → is_held_back rows.filters rows.clock client agent.name bundle ≡ false
not_stopped rows agent client bundle is =
    let held : Bool = is_held_back rows.filters rows.clock client agent.name bundle in
    not-true held (and_parts (is_allocatable bundle) (not held) is).1

-- offers were made, with the next numbers, each to a client with the property P, if all active clients have it; no
-- filter covers an offer
record Offered (P : Client → Type 0) (start after : Rows) : Type 0 where
  made : List OfferRow
  offers : after.offers ≡ start.offers ++ made
  each : AllByRecursion (λ o. P (holding_of_offer o).client) made
  let_through : AllByRecursion (λ o. is_stopped after o ≡ false) made
  numbers : CountUp start.next_offer (map (λ o. o.number) made) after.next_offer
  active : AllByRecursion P (active_clients after)

module _ (P : Client → Type 0) (start : Rows) where
  offered-none : AllByRecursion P (active_clients start) → Offered P start start
  offered-none all = record { made = []; offers = sym (append-nil start.offers); each = tt; let_through = tt; numbers = refl; active = all }

  offered-more : (rows : Rows) (agent : AgentRow) (client : Client) (bundle : List Resource) → P client
      → is_held_back rows.filters rows.clock client agent.name bundle ≡ false → Offered P start rows
      → Offered P start (with_offer rows (new_offer rows agent client bundle))
  unfolding with_offer
  offered-more rows agent client bundle right free so =
      let o : OfferRow = new_offer rows agent client bundle in
      record {
        made = so.made ++ o ∷ [];
        offers = ap (λ (os : List OfferRow). os ++ o ∷ []) so.offers ∙ append_assoc start.offers so.made (o ∷ []);
        each = each_append (λ o. P (holding_of_offer o).client) so.made (o ∷ []) so.each (right, tt);
        let_through = each_append (λ o. is_stopped rows o ≡ false) so.made (o ∷ []) so.let_through (free, tt);
        numbers = subst (λ (ns : List ℕ). CountUp start.next_offer ns (rows.next_offer + 1)) (sym (map-append (λ (o : OfferRow). o.number) so.made (o ∷ [])))
            (count_up-append start.next_offer (map (λ o. o.number) so.made) (rows.next_offer ∷ []) rows.next_offer (rows.next_offer + 1) so.numbers (refl, refl));
        active = subst (AllByRecursion P) (sym (active_clients-with_offer rows o)) so.active;
      }

  offered-turns : (agents : List AgentRow) → Offered P start start → Offered P start (turns start agents)
  offered-turns agents =
      turns_keep (Offered P start) Any P
      (λ rows so. each_served P (standing_of rows) (length (active_clients rows)) (active_clients rows) so.active)
      (λ rows agent client right known is so.
      offered-more rows agent client (its_part rows agent client) known (not_stopped rows agent client (its_part rows agent client) is) so)
      start agents (each_true agents)

module _ (P : Client → Type 0) (rows : Rows) (at : ℕ) (all : AllByRecursion P (active_clients rows)) where
  offered : Offered P rows (cycle rows at)
  unfolding cycle
  offered =
      let so = offered-turns P (at_timestamp rows at) (filter (λ a. a.active) rows.agents) (offered-none P (at_timestamp rows at) all) in
      record {
        made = so.made;
        offers = so.offers;
        each = so.each;
        let_through = so.let_through;
        numbers = so.numbers;
        active = so.active;
      }

  offered_new : new_offers rows (cycle rows at) ≡ offered.made
  offered_new = ap (drop (length rows.offers)) offered.offers ∙ drop-append_seam rows.offers offered.made

-- ---- suppressed clients

module _ (client : Client) where
  IsOther : Client → Type 0
  IsOther other = is_same_client client other ≡ false

  heard : (same suppressed : Bool) → (not same || suppressed) ≡ true → suppressed ≡ false → same ≡ false
  heard true true silent not_so = not_so
  heard true false silent not_so = sym silent
  heard false suppressed silent not_so = refl

  others : (f : FrameworkRow) (cs : List ClientRow) → list_all (λ c. not (is_same_client client (client_of f c)) || c.suppressed) cs ≡ true
      → AllByRecursion (λ c. IsOther (client_of f c)) (filter (λ c. not c.suppressed) cs)
  unfolding IsOther
  others f [] silent = tt
  others f (c ∷ cs) silent =
      let same : Bool = is_same_client client (client_of f c) in
      let parts = and_parts (not same || c.suppressed) (list_all (λ c. not (is_same_client client (client_of f c)) || c.suppressed) cs) silent in
      elim (cases_Bool c.suppressed) [
        | inl past ↦ rw past (others f cs parts.1)
        | inr here ↦ rw here (heard same c.suppressed parts.0 here, others f cs parts.1)
      ]

  all_others : (fs : List FrameworkRow) → list_all (λ f. list_all (λ c. not (is_same_client client (client_of f c)) || c.suppressed) f.clients) fs ≡ true
      → AllByRecursion IsOther (flat_map (λ f. map (client_of f) (filter (λ c. not c.suppressed) f.clients)) fs)
  all_others [] silent = tt
  all_others (f ∷ fs) silent =
      let parts = and_parts (list_all (λ c. not (is_same_client client (client_of f c)) || c.suppressed) f.clients)
      (list_all (λ f. list_all (λ c. not (is_same_client client (client_of f c)) || c.suppressed) f.clients) fs) silent in
      let active : List ClientRow = filter (λ c. not c.suppressed) f.clients in
      each_append IsOther (map (client_of f) active) (flat_map (λ f. map (client_of f) (filter (λ c. not c.suppressed) f.clients)) fs)
      (each_map IsOther (client_of f) active (others f f.clients parts.0)) (all_others fs parts.1)

pub suppressed_is_not_offered : SuppressedIsNotOffered
unfolding IsOther
suppressed_is_not_offered rows client at silent =
    let all = all_others client rows.frameworks silent in
    ap (list_any (λ o. is_same_client client (holding_of_offer o).client)) (offered_new (IsOther client) rows at all)
    ∙ any_fails (λ o. is_same_client client (holding_of_offer o).client) (offered (IsOther client) rows at all).made (offered (IsOther client) rows at all).each

-- ---- what filters cover

pub filtered_is_not_offered : FilteredIsNotOffered
unfolding cycle
filtered_is_not_offered rows at =
    let all = each_true (active_clients rows) in
    let after : Rows = cycle rows at in
    let kept = kept-turns (at_timestamp rows at) (filter (λ a. a.active) rows.agents) in
    (λ i. list_any (λ o. is_held_back (sym kept.0 i) (sym kept.1 i) (holding_of_offer o).client o.agent o.bundle) (offered_new Any rows at all i))
    ∙ any_fails (is_stopped after) (offered Any rows at all).made (offered Any rows at all).let_through

-- ---- the offer numbers of a run

abbrev AreReported : Rows → Reply → Rows → Type 0
AreReported rows reply after = CountUp rows.next_offer (map (λ line. line.number) (lines_reported reply)) after.next_offer

numbers_of_lines : (os : List OfferRow) → map (λ line. line.number) (map line_reported os) ≡ map (λ o. o.number) os
numbers_of_lines [] = refl
numbers_of_lines (o ∷ os) = ap (λ (ns : List ℕ). o.number ∷ ns) (numbers_of_lines os)

reported_by_cycle : (rows : Rows) (at : ℕ) → AreReported rows (answer rows (cycle rows at) (Cycle at)) (cycle rows at)
reported_by_cycle rows at =
    let all = each_true (active_clients rows) in
    subst (λ (ns : List ℕ). CountUp rows.next_offer ns (cycle rows at).next_offer)
    (sym (ap (λ (os : List OfferRow). map (λ line. line.number) (map line_reported os)) (offered_new Any rows at all) ∙ numbers_of_lines (offered Any rows at all).made))
    (offered Any rows at all).numbers

reported_by_effect : (rows : Rows) (event : Event) → AreReported rows (answer rows (effect rows event) event) (effect rows event)
unfolding effect
reported_by_effect rows (Cycle at) = reported_by_cycle rows at
reported_by_effect rows event = ap (λ (r : Rows). r.next_offer) (only_changed rows event)

reported_by_step : (limits : LimitNumbers) (rows : Rows) (event : Event) → AreReported rows (reply_to limits rows event) (rows_after limits rows event)
unfolding reply_to rows_after
reported_by_step limits rows event = by (refusal_of limits rows event)
  where
    by : (refusal : Option Refusal) → AreReported rows (option_map_or Refused refusal (answer rows (effect rows event) event))
        (option_map_or (λ refusal. rows) refusal (record (effect rows event) { events = rows.events + 1 }))
    by None = reported_by_effect rows event
    by (Some refusal) = refl

pub numbers_are_new : NumbersAreNew
numbers_are_new limits rows [] = refl
numbers_are_new limits rows (event ∷ events) =
    let number : OfferLine → ℕ = λ line. line.number in
    let after : Rows = rows_after limits rows event in
    let first : List OfferLine = lines_reported (reply_to limits rows event) in
    let later : List OfferLine = flat_map lines_reported (replies_to limits after events) in
    let last : Rows = rows_after_all limits after events in
    subst (λ (ns : List ℕ). CountUp rows.next_offer ns last.next_offer) (sym (map-append number first later))
    (count_up-append rows.next_offer (map number first) (map number later) after.next_offer last.next_offer
    (reported_by_step limits rows event) (numbers_are_new limits after events))
