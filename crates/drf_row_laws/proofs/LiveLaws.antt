-- Expired filters change nothing.
use Rattle.std.specs.Prelude.{◌≡◌, ℕ, ◌+◌, ◌≤◌, max, Bool, true, false, not, ◌&&◌, List, [], ◌∷◌, ◌++◌, filter, Option, Some, None, if◌then◌else◌, nat_le}
use Rattle.std.specs.Option.{option_map_or}
use Rattle.std.proofs.Common.{refl, sym, ap, subst, ◌∙◌, arith}
use Rattle.drf_role.specs.Text.{Text, same_text}
use Rattle.drf_bundle.specs.declared.resource.Resource.{Resource}
use Rattle.drf_rows.specs.LimitNumbers.{LimitNumbers}
use Rattle.drf_rows.specs.Client.{Client}
use Rattle.drf_rows.specs.Held.{standing_of}
use Rattle.drf_rows.specs.Filters.{in_force, is_of_client, is_on_agent, is_held_back}
use Rattle.drf_row_laws.proofs.FrameLaws.{by_offer, with_tables, all_tried_only, turn_only, turns_only}
use Rattle.drf_row_laws.proofs.FilterLaws.{held_back-in_force, in_force-later, number_in_force-later, in_force-left, in_force-more}
use Rattle.drf_rows.specs.Quota.{entitlement}
use Rattle.drf_rows.specs.Cycle.{free_of, is_allocatable, grant, new_offer, with_offer, tried, all_tried, turn_order, turn, turns, at_timestamp, cycle}
use Rattle.drf_rows.specs.Roles.{is_of_left}
use Rattle.drf_rows.specs.Offers.{offer_at, left_of_offer, filtered_until, filter_of, filters_all, filters_rest, filters_with, are_many_filters, offer_accepted, offer_declined}
use Rattle.drf_rows.specs.Tasks.{Start}
use Rattle.drf_rows.specs.Report.{report_of}
use Rattle.drf_rows.specs.Step.{live_rows, refusal_of, effect, answer, rows_after, rows_after_all, reply_to, replies_to}
use Rattle.drf_rows.specs.declared.event.Event.{Event}
use Rattle.drf_rows.specs.declared.event.Event.TheVariants.{RemoveAgent, SetFramework, RemoveFramework, Accept, Decline, Revive, Cycle}
use Rattle.drf_rows.specs.declared.reply.Refusal.{Refusal}
use Rattle.drf_rows.specs.declared.reply.Reply.TheVariants.{Refused}
use Rattle.drf_rows.specs.declared.rows.AgentRow.{AgentRow}
use Rattle.drf_rows.specs.declared.rows.FilterRow.{FilterRow}
use Rattle.drf_rows.specs.declared.rows.OfferRow.{OfferRow}
use Rattle.drf_rows.specs.declared.rows.Rows.{Rows}

-- the rows with other filters
abbrev with_filters : Rows → List FilterRow → Rows
with_filters rows filters = record rows { filters = filters }

-- ---- a cycle in states whose filters cover the same

abbrev HoldTheSame : List FilterRow → List FilterRow → ℕ → Type 0
HoldTheSame fs gs clock =
    (client : Client) (agent : Text) (bundle : List Resource) → is_held_back fs clock client agent bundle ≡ is_held_back gs clock client agent bundle

granted-filters : (rows : Rows) (fs : List FilterRow) (agent : AgentRow) (client : Client) → HoldTheSame fs rows.filters rows.clock
    → grant (with_filters rows fs) agent client ≡ grant rows agent client
unfolding free_of
granted-filters rows fs agent client same =
    let bundle = entitlement rows (free_of rows agent) client in
    λ i. if is_allocatable bundle && not (same client agent.name bundle i) then Some bundle else None

offered-filters : (rows : Rows) (fs : List FilterRow) (agent : AgentRow) (client : Client) (granted : Option (List Resource))
    → option_map_or (λ bundle. with_offer (with_filters rows fs) (new_offer rows agent client bundle)) granted (with_filters rows fs)
    ≡ with_filters (option_map_or (λ bundle. with_offer rows (new_offer rows agent client bundle)) granted rows) fs
unfolding with_offer
offered-filters rows fs agent client None = refl
offered-filters rows fs agent client (Some bundle) = refl

tried-filters : (rows : Rows) (fs : List FilterRow) (agent : AgentRow) (client : Client) → HoldTheSame fs rows.filters rows.clock
    → tried (with_filters rows fs) agent client ≡ with_filters (tried rows agent client) fs
tried-filters rows fs agent client same =
    ap (λ (granted : Option (List Resource)). option_map_or (λ bundle. with_offer (with_filters rows fs) (new_offer rows agent client bundle)) granted (with_filters rows fs))
    (granted-filters rows fs agent client same)
    ∙ offered-filters rows fs agent client (grant rows agent client)

-- a turn changes neither filters nor clock, nor what is covered
pub kept-turns : (rows : Rows) (agents : List AgentRow) → ((turns rows agents).filters ≡ rows.filters) × ((turns rows agents).clock ≡ rows.clock)
kept-turns rows agents =
    let only = turns_only rows agents in
    (ap (λ (r : Rows). r.filters) only, ap (λ (r : Rows). r.clock) only)

still_the_same : (rows after : Rows) (fs : List FilterRow) → after ≡ with_tables by_offer rows after
    → HoldTheSame fs rows.filters rows.clock → HoldTheSame fs after.filters after.clock
still_the_same rows after fs only same = subst (λ (r : Rows). HoldTheSame fs r.filters r.clock) (sym only) same

all_tried-filters : (rows : Rows) (fs : List FilterRow) (agent : AgentRow) (clients : List Client) → HoldTheSame fs rows.filters rows.clock
    → all_tried (with_filters rows fs) agent clients ≡ with_filters (all_tried rows agent clients) fs
all_tried-filters rows fs agent [] same = refl
all_tried-filters rows fs agent (client ∷ clients) same =
    let after : Rows = tried rows agent client in
    ap (λ (r : Rows). all_tried r agent clients) (tried-filters rows fs agent client same)
    ∙ all_tried-filters after fs agent clients (still_the_same rows after fs (all_tried_only rows agent (client ∷ [])) same)

turn-filters : (rows : Rows) (fs : List FilterRow) (agent : AgentRow) → HoldTheSame fs rows.filters rows.clock
    → turn (with_filters rows fs) agent ≡ with_filters (turn rows agent) fs
unfolding turn standing_of
turn-filters rows fs agent same = all_tried-filters rows fs agent (turn_order rows) same

turns-filters : (rows : Rows) (fs : List FilterRow) (agents : List AgentRow) → HoldTheSame fs rows.filters rows.clock
    → turns (with_filters rows fs) agents ≡ with_filters (turns rows agents) fs
turns-filters rows fs [] same = refl
turns-filters rows fs (agent ∷ agents) same =
    let after : Rows = turn rows agent in
    ap (λ (r : Rows). turns r agents) (turn-filters rows fs agent same)
    ∙ turns-filters after fs agents (still_the_same rows after fs (turn_only rows agent) same)

-- ---- the current state

module _ (rows : Rows) (at : ℕ) where
  -- from the clock on
  late : rows.clock ≤ max rows.clock at
  late = omega arith

  live_hold_the_same : HoldTheSame (in_force rows.clock rows.filters) rows.filters (max rows.clock at)
  live_hold_the_same client agent bundle = held_back-in_force rows.filters rows.clock (max rows.clock at) client agent bundle late

  are_many-live : (limits : LimitNumbers) → are_many_filters limits (live_rows rows) at ≡ are_many_filters limits rows at
  are_many-live limits = ap (nat_le limits.filters) (number_in_force-later rows.clock (max rows.clock at) rows.filters late)

  cycle-live : cycle (live_rows rows) at ≡ with_filters (cycle rows at) (in_force rows.clock rows.filters)
  unfolding cycle
  cycle-live = turns-filters (at_timestamp rows at) (in_force rows.clock rows.filters) (filter (λ a. a.active) rows.agents) live_hold_the_same

refusal_of-live : (limits : LimitNumbers) (rows : Rows) (event : Event) → refusal_of limits (live_rows rows) event ≡ refusal_of limits rows event
unfolding refusal_of free_of
refusal_of-live limits rows (Accept a) = rw (are_many-live rows a.at limits)
refusal_of-live limits rows (Decline d) = rw (are_many-live rows d.at limits)
refusal_of-live limits rows event = refl

-- two states that differ only in filters, with the same filters in force, have the same current state
live-kept : (after : Rows) (fs : List FilterRow) → in_force after.clock fs ≡ in_force after.clock after.filters
    → live_rows (with_filters after fs) ≡ live_rows after
live-kept after fs same = ap (with_filters after) same

-- filters that expired before do not matter
live-late : (after : Rows) (now : ℕ) → now ≤ after.clock → live_rows (with_filters after (in_force now after.filters)) ≡ live_rows after
live-late after now le = live-kept after (in_force now after.filters) (in_force-later now after.clock after.filters le)

-- one more filter, or none
live-refused : (now later : ℕ) (fs : List FilterRow) (refused : Bool) (more : List FilterRow) → now ≤ later
    → in_force later (if refused then in_force now fs ++ more else in_force now fs) ≡ in_force later (if refused then fs ++ more else fs)
live-refused now later fs true more le = in_force-more now later fs more le
live-refused now later fs false more le = in_force-later now later fs le

-- the current state after an event that is counted
module _ (rows : Rows) (n : ℕ) where
  -- if the filters stay
  live-stay : (after : Rows) → rows.clock ≤ after.clock → after.filters ≡ rows.filters
      → live_rows (record after { filters = in_force rows.clock rows.filters; events = n }) ≡ live_rows (record after { events = n })
  live-stay after le same =
      ap (λ (fs : List FilterRow). live_rows (record after { filters = in_force rows.clock fs; events = n })) (sym same)
      ∙ live-late (record after { events = n }) rows.clock le

  -- if some filters are removed
  live-leave : (after : Rows) (p : FilterRow → Bool) → after.clock ≡ rows.clock → after.filters ≡ filter p rows.filters
      → live_rows (record after { filters = filter p (in_force rows.clock rows.filters); events = n }) ≡ live_rows (record after { events = n })
  live-leave after p clock left =
      live-kept (record after { events = n }) (filter p (in_force rows.clock rows.filters)) (
      in_force-left rows.clock after.clock p rows.filters (omega (arith, clock)) ∙ ap (in_force after.clock) (sym left))

  live-accepted : (at : ℕ) (starts : List Start) (refuse_ms : ℕ) (found : Option OfferRow)
      → live_rows (record (option_map_or (λ o. offer_accepted (at_timestamp (live_rows rows) at) o starts refuse_ms) found (live_rows rows)) { events = n })
      ≡ live_rows (record (option_map_or (λ o. offer_accepted (at_timestamp rows at) o starts refuse_ms) found rows) { events = n })
  live-accepted at starts refuse_ms None = live-stay rows (omega arith) refl
  live-accepted at starts refuse_ms (Some o) =
      let start : Rows = at_timestamp rows at in
      let refused : Bool = filters_rest o starts refuse_ms in
      live-kept (record (offer_accepted start o starts refuse_ms) { events = n })
      (filters_with (at_timestamp (live_rows rows) at) refused o (left_of_offer o starts) refuse_ms)
      (live-refused rows.clock start.clock rows.filters refused (filter_of o (left_of_offer o starts) (filtered_until start.clock refuse_ms) ∷ []) (omega arith))

  live-declined : (at refuse_ms : ℕ) (found : Option OfferRow)
      → live_rows (record (option_map_or (λ o. offer_declined (at_timestamp (live_rows rows) at) o refuse_ms) found (live_rows rows)) { events = n })
      ≡ live_rows (record (option_map_or (λ o. offer_declined (at_timestamp rows at) o refuse_ms) found rows) { events = n })
  live-declined at refuse_ms None = live-stay rows (omega arith) refl
  live-declined at refuse_ms (Some o) =
      let start : Rows = at_timestamp rows at in
      live-kept (record (offer_declined start o refuse_ms) { events = n })
      (filters_with (at_timestamp (live_rows rows) at) (filters_all refuse_ms) o o.bundle refuse_ms)
      (live-refused rows.clock start.clock rows.filters (filters_all refuse_ms) (filter_of o o.bundle (filtered_until start.clock refuse_ms) ∷ []) (omega arith))

  live-cycle : (at : ℕ) → live_rows (record (cycle (live_rows rows) at) { events = n }) ≡ live_rows (record (cycle rows at) { events = n })
  unfolding cycle
  live-cycle at =
      let agents : List AgentRow = filter (λ a. a.active) rows.agents in
      let kept = kept-turns (at_timestamp rows at) agents in
      ap (λ (r : Rows). live_rows (record r { events = n })) (cycle-live rows at)
      ∙ live-stay (turns (at_timestamp rows at) agents) (omega (arith, kept.1)) kept.0

  -- the current state after the effect is the same from the current state
  effect-live : (event : Event) → live_rows (record (effect (live_rows rows) event) { events = n }) ≡ live_rows (record (effect rows event) { events = n })
  unfolding effect
  effect-live (RemoveAgent agent) = live-leave (effect rows (RemoveAgent agent)) (λ f. not (is_on_agent agent f)) refl refl
  effect-live (SetFramework framework roles) =
      live-leave (effect rows (SetFramework framework roles)) (λ f. not (is_of_left framework roles f)) refl refl
  effect-live (RemoveFramework framework) = live-leave (effect rows (RemoveFramework framework)) (λ f. not (same_text f.framework framework)) refl refl
  effect-live (Accept a) = live-accepted a.at a.tasks a.refuse_ms (offer_at rows a.offer)
  effect-live (Decline d) = live-declined d.at d.refuse_ms (offer_at rows d.offer)
  effect-live (Revive framework role) =
      live-leave (effect rows (Revive framework role)) (λ f. not (is_of_client (record { role = role; framework = framework }) f)) refl refl
  effect-live (Cycle at) = live-cycle at
  effect-live event = live-stay (effect rows event) (omega arith) refl

pub report_of-live : (rows : Rows) → report_of (live_rows rows) ≡ report_of rows
unfolding report_of standing_of
report_of-live rows = refl

answer-live : (rows : Rows) (event : Event) → answer (live_rows rows) (effect (live_rows rows) event) event ≡ answer rows (effect rows event) event
unfolding effect report_of standing_of
answer-live rows (Cycle at) = ap (λ (r : Rows). answer rows r (Cycle at)) (cycle-live rows at)
answer-live rows event = refl

reply_by : (rows live : Rows) (event : Event) (refusal : Option Refusal) → answer live (effect live event) event ≡ answer rows (effect rows event) event
    → option_map_or Refused refusal (answer live (effect live event) event) ≡ option_map_or Refused refusal (answer rows (effect rows event) event)
reply_by rows live event None same = same
reply_by rows live event (Some refusal) same = refl

pub reply_to-live : (limits : LimitNumbers) (rows : Rows) (event : Event) → reply_to limits (live_rows rows) event ≡ reply_to limits rows event
unfolding reply_to
reply_to-live limits rows event =
    ap (λ (o : Option Refusal). option_map_or Refused o (answer (live_rows rows) (effect (live_rows rows) event) event)) (refusal_of-live limits rows event)
    ∙ reply_by rows (live_rows rows) event (refusal_of limits rows event) (answer-live rows event)

live_by : (rows : Rows) (event : Event) (refusal : Option Refusal) (n : ℕ)
    → live_rows (option_map_or (λ refusal. live_rows rows) refusal (record (effect (live_rows rows) event) { events = n }))
    ≡ live_rows (option_map_or (λ refusal. rows) refusal (record (effect rows event) { events = n }))
live_by rows event None n = effect-live rows n event
live_by rows event (Some refusal) n =
    live-late rows rows.clock (omega arith)

pub rows_after-live : (limits : LimitNumbers) (rows : Rows) (event : Event)
    → live_rows (rows_after limits (live_rows rows) event) ≡ live_rows (rows_after limits rows event)
unfolding rows_after
rows_after-live limits rows event =
    ap (λ (o : Option Refusal). live_rows (option_map_or (λ refusal. live_rows rows) o (record (effect (live_rows rows) event) { events = rows.events + 1 }))) (refusal_of-live limits rows event)
    ∙ live_by rows event (refusal_of limits rows event) (rows.events + 1)

-- ---- steps and runs from two states with the same current state

module _ (limits : LimitNumbers) (a b : Rows) (same : live_rows a ≡ live_rows b) (event : Event) where
  pub reply_to-same_live : reply_to limits a event ≡ reply_to limits b event
  reply_to-same_live =
      sym (reply_to-live limits a event) ∙ ap (λ (r : Rows). reply_to limits r event) same ∙ reply_to-live limits b event

  pub rows_after-same_live : live_rows (rows_after limits a event) ≡ live_rows (rows_after limits b event)
  rows_after-same_live =
      sym (rows_after-live limits a event) ∙ ap (λ (r : Rows). live_rows (rows_after limits r event)) same ∙ rows_after-live limits b event

pub replies_to-same_live : (limits : LimitNumbers) (a b : Rows) (events : List Event) → live_rows a ≡ live_rows b
    → replies_to limits a events ≡ replies_to limits b events
replies_to-same_live limits a b [] same = refl
replies_to-same_live limits a b (event ∷ events) same =
    λ i. reply_to-same_live limits a b same event i
    ∷ replies_to-same_live limits (rows_after limits a event) (rows_after limits b event) events (rows_after-same_live limits a b same event) i

pub rows_after_all-same_live : (limits : LimitNumbers) (a b : Rows) (events : List Event) → live_rows a ≡ live_rows b
    → live_rows (rows_after_all limits a events) ≡ live_rows (rows_after_all limits b events)
rows_after_all-same_live limits a b [] same = same
rows_after_all-same_live limits a b (event ∷ events) same =
    rows_after_all-same_live limits (rows_after limits a event) (rows_after limits b event) events (rows_after-same_live limits a b same event)

pub live_rows-twice : (rows : Rows) → live_rows (live_rows rows) ≡ live_rows rows
live_rows-twice rows = live-late rows rows.clock (omega arith)
