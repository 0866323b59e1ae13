-- A cycle whose offer is declined with a long filter changes nothing, except that one more client has a filter.
use Rattle.std.specs.Prelude.{◌≡◌, ℕ, ◌+◌, ◌-◌, ◌<◌, ◌≤◌, ◌==◌, min, max, Bool, true, false, not, ◌&&◌, ◌||◌, List, [], ◌∷◌, ◌++◌, length, map, filter, drop, Option, Some, nat_lt}
use Rattle.std.specs.List.{AllByRecursion}
use Rattle.std.specs.Option.{option_map_or}
use Rattle.std.proofs.Common.{refl, sym, ap, subst, ◌∙◌, inl, inr, ◌⊎◌, arith, append-nil}
use Rattle.std.proofs.Math.Seq.{drop-append_seam}
use Rattle.std.proofs.lemmas.Bool.{lt-ltb}
use Rattle.std.proofs.lemmas.Bool.Decides.{nat_tests}
use Rattle.drf_role.specs.Text.{same_text}
use Rattle.drf_role.specs.TextLaws.{same_itself}
use Rattle.drf_bundle.specs.Bundle.{IsBundle, is_unreserved, covers}
use Rattle.drf_bundle.specs.Taken.{rest_of_all}
use Rattle.drf_bundle.proofs.theorems.RestLaws.{covers_units}
use Rattle.drf_bundle.specs.declared.resource.Resource.{Resource}
use Rattle.drf_rows.specs.Client.{Client}
use Rattle.drf_rows.specs.Consistent.{IsAgent, IsFilter, IsConsistent}
use Rattle.drf_rows.specs.Cycle.{free_of, is_allocatable, new_offer, with_offer, turn, turns, turn_order, at_timestamp, cycle}
use Rattle.drf_rows.specs.Releases.{one_offer, without_ended}
use Rattle.drf_rows.specs.Filters.{is_in_force, is_held_back, is_of_client, is_on_agent}
use Rattle.drf_rows.specs.Held.{active_clients}
use Rattle.drf_rows.specs.Held as rows_word
use Rattle.drf_rows.specs.Holdings.{holding_of_offer, holding_of_task, parts_on}
use Rattle.drf_rows.specs.Offers.{filter_of, filtered_until, filters_with, offer_at, offer_declined}
use Rattle.drf_rows.specs.Step.{effect}
use Rattle.drf_row_laws.proofs.ConsistentLaws.{bundles-consistent, numbers_within}
use Rattle.drf_row_laws.proofs.CycleLaws.{active_clients-with_offer, bundle-free_of}
use Rattle.drf_row_laws.proofs.ReleaseLaws.{IsConsistent-filters}
use Rattle.drf_row_laws.specs.LifeLaws.{is_same_client}
use Rattle.drf_bundle.proofs.ListLaws.{each_append, each_filter, each_from, each_at, each_true, filter_each, filter_only, find_only}
use Rattle.drf_row_laws.proofs.OfferLaws.{offer_filter}
use Rattle.drf_laws.proofs.OfferedLaws.{each_served}
use Rattle.drf_rows.specs.declared.event.Decline as declining
use Rattle.drf_rows.specs.declared.event.Event.TheVariants.{Cycle, Decline}
use Rattle.drf_rows.specs.declared.limits.TheConstants.{LATEST_TIMESTAMP, LONGEST_FILTER}
use Rattle.drf_rows.specs.declared.rows.AgentRow.{AgentRow}
use Rattle.drf_rows.specs.declared.rows.FilterRow.{FilterRow}
use Rattle.drf_rows.specs.declared.rows.OfferRow.{OfferRow}
use Rattle.drf_rows.specs.declared.rows.Rows.{Rows}
use Rattle.drf_laws.specs.FilterLaws.{end_of}
use Rattle.drf_laws.proofs.theorems.Releases.{IsConsistent-ended}
use Rattle.drf_laws.proofs.theorems.Kept.{consistent-clock}
use Rattle.drf_laws.proofs.theorems.SetFilters.{declined_is_held_back}
use Rattle.drf_promises.specs.Cycles.{active_agents}
use Rattle.drf_promises.specs.Runs.{Has}
use Rattle.drf_promises.specs.Waiting.{made_at, all_declined, round}
use Rattle.drf_laws.proofs.theorems.Cycles.{each_is_at}
use Rattle.drf_promises.proofs.theorems.Cycles.{everybody, end}
use Rattle.drf_promises.proofs.theorems.Waiting.{GoesTo, goes_to}

-- ---- an offer that is declined

-- no offer has the next number yet
none_next : (rows : Rows) → IsConsistent rows → AllByRecursion (λ o. (o.number == rows.next_offer) ≡ false) rows.offers
none_next rows consistent =
    let last : ℕ = rows.next_offer - 1 in
    each_from (λ o. o.number ≤ last) (λ o. (o.number == rows.next_offer) ≡ false) rows.offers other
    (numbers_within rows.offers rows.next_offer last consistent.numbered (omega arith))
  where
    other : (o : OfferRow) → o.number ≤ rows.next_offer - 1 → (o.number == rows.next_offer) ≡ false
    other o within = grind (arith, nat_tests, within, consistent.counted)

module _ (rows : Rows) (agent : AgentRow) (client : Client) (bundle : List Resource) (at ms : ℕ) (consistent : IsConsistent rows) (some : 0 < ms) where
  abbrev o : OfferRow
  o = new_offer rows agent client bundle

  abbrev made : Rows
  made = with_offer rows o

  abbrev declined : declining.Decline
  declined = record { framework = client.framework; offer = rows.next_offer; at = at; refuse_ms = ms }

  abbrev is_next : OfferRow → Bool
  is_next p = p.number == rows.next_offer

  itself : is_next o ≡ true
  itself = grind (arith, nat_tests)

  pub found : offer_at made rows.next_offer ≡ Some o
  unfolding with_offer
  found = find_only is_next rows.offers [] o (none_next rows consistent) itself

  -- the state is unchanged except for counts, the next offer number, the clock and one filter
  abbrev pub refused : Rows
  refused = record rows {
    frameworks = made.frameworks;
    next_offer = rows.next_offer + 1;
    clock = max rows.clock at;
    filters = rows.filters ++ filter_of o bundle (filtered_until (max rows.clock at) ms) ∷ [];
  }

  offers_left : filter (λ p. not (is_next p)) (rows.offers ++ o ∷ []) ≡ rows.offers
  offers_left = filter_only is_next rows.offers [] o (none_next rows consistent) itself tt ∙ append-nil rows.offers

  tasks_left : filter (λ t. true) rows.tasks ≡ rows.tasks
  tasks_left = filter_each (λ t. true) rows.tasks (each_true rows.tasks)

  pub is_refused : effect made (Decline declined) ≡ refused
  unfolding effect with_offer
  is_refused =
      let filtered : nat_lt 0 ms ≡ true = lt-ltb 0 ms some in
      ap (λ (f : Option OfferRow). option_map_or (λ o. offer_declined (at_timestamp made at) o ms) f made) found
      ∙ (λ i. record refused { offers = offers_left i; tasks = tasks_left i; filters = filters_with (at_timestamp made at) (filtered i) o bundle ms })

  pub refused_consistent : IsConsistent made → IsBundle bundle → max rows.clock at ≤ LATEST_TIMESTAMP → IsConsistent refused
  unfolding with_offer
  refused_consistent right is early =
      let one : FilterRow = filter_of o bundle (filtered_until (max rows.clock at) ms) in
      let filters = each_append (IsFilter made.agents made.frameworks) rows.filters (one ∷ []) right.filters
      (offer_filter made rows.next_offer o bundle (max rows.clock at) ms right found is early, tt) in
      subst IsConsistent (λ i. record refused { offers = offers_left i; tasks = tasks_left i })
      (IsConsistent-filters (without_ended (at_timestamp made at) (one_offer rows.next_offer)) (rows.filters ++ one ∷ [])
      (IsConsistent-ended (at_timestamp made at) (one_offer rows.next_offer) (consistent-clock made (max rows.clock at) right early)) filters)

-- ---- a round

-- the filter expired before the rounds, or lasts beyond them
abbrev pub OutOrLasts : ℕ → ℕ → FilterRow → Type 0
OutOrLasts begun last f = (f.until ≤ begun) ⊎ (last < f.until)

-- such filters cover the same at each time of the rounds
held_alike : (fs : List FilterRow) (begun now last : ℕ) (client : Client) (agent : List ℕ) (bundle : List Resource) → begun ≤ now → now ≤ last
    → AllByRecursion (OutOrLasts begun last) fs → is_held_back fs now client agent bundle ≡ is_held_back fs last client agent bundle
held_alike [] begun now last client agent bundle late early each = refl
held_alike (f ∷ fs) begun now last client agent bundle late early each =
    let later = held_alike fs begun now last client agent bundle late early each.1 in
    elim each.0 [
      | inl out ↦
          let first : is_in_force now f ≡ false = grind (arith, nat_tests) in
          let second : is_in_force last f ≡ false = grind (arith, nat_tests) in
          rw (first, second) later
      | inr lasts ↦
          let first : is_in_force now f ≡ true = lt-ltb now f.until (omega (arith, lasts, early)) in
          let second : is_in_force last f ≡ true = lt-ltb last f.until lasts in
          rw (first, second) (ap (λ b. (is_of_client client f && (is_on_agent agent f && covers f.bundle bundle)) || b) later)
    ]

and_true : (b : Bool) → (b && true) ≡ b
and_true true = refl
and_true false = refl

covers_itself : (bundle : List Resource) → IsBundle bundle → covers bundle bundle ≡ true
covers_itself bundle is = covers_units bundle bundle is.in_order is.in_order is.each (λ key p. omega arith)

module _ (start : Rows) (agent : AgentRow) (first last ms : ℕ) (right : IsConsistent start) (one : active_agents start ≡ agent ∷ [])
    (unreserved : is_unreserved agent.total ≡ true) (worth : is_allocatable (free_of start agent) ≡ true) (late : last ≤ LATEST_TIMESTAMP)
    (long : last < first + min ms LONGEST_FILTER) where
  abbrev free : List Resource
  free = free_of start agent

  -- the rounds begin at this time or later
  abbrev begin : ℕ
  begin = max start.clock first

  -- whether a filter that had not expired then covers the free resources for the client
  abbrev pub is_held : Rows → Client → Bool
  is_held rows client = is_held_back rows.filters last client agent.name free

  -- the state after some rounds
  pub record Waits (rows : Rows) : Type 0 where
    pub consistent : IsConsistent rows
    pub agents : rows.agents ≡ start.agents
    pub active : active_clients rows ≡ active_clients start
    pub offers : rows.offers ≡ start.offers
    pub tasks : rows.tasks ≡ start.tasks
    pub limits : rows.limits ≡ []
    pub begun : start.clock ≤ rows.clock
    pub clock : rows.clock ≤ last
    pub lasting : AllByRecursion (OutOrLasts begin last) rows.filters

  -- a round: its offer goes to a client without such a filter, which has one from then on
  pub record Offers (rows : Rows) (at : ℕ) : Type 0 where
    pub offer : OfferRow
    pub made : made_at rows at ≡ offer ∷ []
    pub has : Has (active_clients start) (holding_of_offer offer).client
    pub past : is_held rows (holding_of_offer offer).client ≡ false
    pub waits : Waits (round ms rows at)
    pub held : (client : Client) → is_held (round ms rows at) client ≡ (is_held rows client || is_same_client client (holding_of_offer offer).client)

  module _ (rows : Rows) (at : ℕ) (waits : Waits rows) (not_before : first ≤ at) (in_time : at ≤ last) where
    abbrev mid : Rows
    mid = at_timestamp rows at

    mid_consistent : IsConsistent mid
    mid_consistent = consistent-clock rows (max rows.clock at) waits.consistent (omega (arith, waits.clock, in_time, late))

    free_is : free_of mid agent ≡ free
    unfolding free_of
    free_is = λ i. rest_of_all agent.total (parts_on agent.name (map holding_of_offer (waits.offers i) ++ map holding_of_task (waits.tasks i)))

    cycle_is : cycle rows at ≡ turn mid agent
    unfolding cycle
    cycle_is = ap (turns mid) (ap (filter (λ a. a.active)) waits.agents ∙ one)

    early : at ≤ LATEST_TIMESTAMP
    early = omega (arith, in_time, late)

    total : IsBundle agent.total
    total = (subst (AllByRecursion IsAgent) one (each_filter IsAgent (λ a. a.active) start.agents right.agents.each)).0.total

    free_bundle : IsBundle free
    free_bundle = bundle-free_of start agent total

    -- whether a filter covers the free resources for the client in this turn
    abbrev held_then : Client → Bool
    held_then client = is_held_back mid.filters mid.clock client agent.name (free_of mid agent)

    held_is : (client : Client) → held_then client ≡ is_held rows client
    held_is client =
        (λ i. is_held_back rows.filters mid.clock client agent.name (free_is i))
        ∙ held_alike rows.filters begin mid.clock last client agent.name free (omega (arith, waits.begun, not_before)) (omega (arith, waits.clock, in_time)) waits.lasting

    abbrev Turn : Type 0
    Turn = GoesTo mid agent total unreserved waits.limits (bundles-consistent mid mid_consistent) (ap is_allocatable free_is ∙ worth) (turn_order mid)

    all_held : AllByRecursion (λ c. held_then c ≡ true) (turn_order mid) → AllByRecursion (λ c. is_held rows c ≡ true) (active_clients start)
    all_held each =
        subst (AllByRecursion (λ c. is_held rows c ≡ true)) waits.active
        (everybody (λ c. is_held rows c ≡ true) mid mid_consistent
        (each_from (λ c. held_then c ≡ true) (λ c. is_held rows c ≡ true) (turn_order mid) (λ c here. sym (held_is c) ∙ here) each))

    module _ (to : Turn) where
      abbrev offered : OfferRow
      offered = new_offer mid agent to.first (free_of mid agent)

      abbrev after : Rows
      after = with_offer mid offered

      cycled : effect rows (Cycle at) ≡ after
      unfolding effect turn
      cycled = cycle_is ∙ to.offered

      is_made : made_at rows at ≡ offered ∷ []
      unfolding with_offer
      is_made = ap (λ (r : Rows). drop (length rows.offers) r.offers) cycled ∙ drop-append_seam rows.offers (offered ∷ [])

      has_first : Has (active_clients start) to.first
      has_first =
          subst (λ (cs : List Client). Has cs to.first) waits.active
          (each_at (Has (active_clients mid)) (turn_order mid) to.has.0 to.first
          (each_served (Has (active_clients mid)) (rows_word.standing_of mid) _ (active_clients mid) (each_is_at (active_clients mid))) to.has.1)

      some : 0 < ms
      some = omega (arith, long, not_before, in_time)

      abbrev decline : declining.Decline
      decline = record { framework = to.first.framework; offer = mid.next_offer; at = at; refuse_ms = ms }

      declined_then : round ms rows at ≡ effect after (Decline decline)
      declined_then = λ i. all_declined at ms (cycled i) (is_made i)

      after_consistent : IsConsistent after
      unfolding turn
      after_consistent = subst IsConsistent (cycle_is ∙ to.offered) (end rows at waits.consistent early).consistent

      still_waits : Waits (round ms rows at)
      unfolding with_offer
      still_waits =
          subst Waits (sym (declined_then ∙ is_refused mid agent to.first (free_of mid agent) at ms mid_consistent some))
          (record {
            consistent = refused_consistent mid agent to.first (free_of mid agent) at ms mid_consistent some after_consistent
                (subst IsBundle (sym free_is) free_bundle) (omega (arith, waits.clock, in_time, late));
            agents = waits.agents;
            active = active_clients-with_offer mid offered ∙ waits.active;
            offers = waits.offers;
            tasks = waits.tasks;
            limits = waits.limits;
            begun = omega (arith, waits.begun);
            clock = omega (arith, waits.clock, in_time);
            lasting =
                each_append (OutOrLasts begin last) rows.filters (filter_of offered (free_of mid agent) (filtered_until (max mid.clock at) ms) ∷ [])
                waits.lasting (inr (omega (arith, long, not_before)), tt);
          })

      held_more : (client : Client) → is_held (round ms rows at) client ≡ (is_held rows client || is_same_client client (holding_of_offer offered).client)
      unfolding with_offer
      held_more client =
          let same : Bool = is_same_client client (holding_of_offer offered).client in
          let lasts : nat_lt last (end_of after at ms) ≡ true = lt-ltb last (end_of after at ms) (omega (arith, long, not_before)) in
          let cover : covers (free_of mid agent) free ≡ true = ap (λ (b : List Resource). covers b free) free_is ∙ covers_itself free free_bundle in
          let itself : same_text agent.name agent.name ≡ true = same_itself agent.name in
          ap (λ (r : Rows). is_held r client) declined_then
          ∙ declined_is_held_back after decline offered last client agent.name free
          (found mid agent to.first (free_of mid agent) at ms mid_consistent some) (omega (arith, waits.clock, in_time))
          ∙ (λ i. is_held rows client || (lasts i && (same && (itself i && cover i))))
          ∙ ap (λ b. is_held rows client || b) (and_true same)

    pub next : AllByRecursion (λ c. is_held rows c ≡ true) (active_clients start) ⊎ Offers rows at
    next = elim (goes_to mid agent total unreserved waits.limits (bundles-consistent mid mid_consistent) (ap is_allocatable free_is ∙ worth) (turn_order mid)) [
      | inl nobody ↦ inl (all_held nobody.0)
      | inr to ↦ inr (record {
        offer = offered to;
        made = is_made to;
        has = has_first to;
        past = sym (held_is to.first) ∙ to.free_to_have;
        waits = still_waits to;
        held = held_more to;
      })
    ]
