-- Which rows an event leaves unchanged: all except those of its own agent or framework, and what it ends.
use Rattle.std.specs.Prelude.{◌≡◌, ℕ, ◌+◌, ◌==◌, Bool, true, false, not, ◌&&◌, ◌||◌, List, [], ◌∷◌, ◌++◌, length, map, filter, find, count_by, drop, Option, Some, None, if◌then◌else◌}
use Rattle.std.specs.List.{list_all}
use Rattle.std.specs.Option.{option_map_or}
use Rattle.std.proofs.Common.{refl, sym, ap, ◌∙◌, inl, inr, cond, arith}
use Rattle.std.proofs.Math.Bool.{or-true}
use Rattle.std.proofs.lemmas.Bool.{cases_Bool, and_from, not-true, false≢true, eqb-true}
use Rattle.std.proofs.lemmas.List.{append-nil, append_assoc}
use Rattle.std.proofs.lemmas.List.Sums.{sum_by-append}
use Rattle.std.proofs.Math.Seq.{drop-append_seam}
use Rattle.drf_role.specs.Text.{Text, same_text}
use Rattle.drf_role.specs.TextLaws.{same_itself}
use Rattle.drf_role.specs.Path.{Path, same_path}
use Rattle.drf_bundle.specs.declared.resource.Resource.{Resource}
use Rattle.drf_rows.specs.Client.{Client}
use Rattle.drf_rows.specs.Holdings.{holding_of_offer}
use Rattle.drf_rows.specs.Cycle.{counted, count_offer, with_offer, at_timestamp, cycle}
use Rattle.drf_rows.specs.Releases.{is_task}
use Rattle.drf_row_laws.proofs.FrameLaws.{any_turns, cycle_only, all_stay, only_changed, step_keeps}
use Rattle.drf_row_laws.proofs.ReleaseLaws.{filter-out, find-place}
use Rattle.drf_rows.specs.Offers.{offer_at, offer_accepted, offer_declined}
use Rattle.drf_rows.specs.Tasks.{Start}
use Rattle.drf_bundle.specs.Bundle.{relabel}
use Rattle.drf_rows.specs.Totals.{total_at, exchanged}
use Rattle.drf_rows.specs.Roles.{with_roles, roles_set_in}
use Rattle.drf_rows.specs.Members.{distinct, new_client, active_at, suppressed_at, suppressed_in}
use Rattle.drf_bundle.proofs.ListLaws.{filter-again, none_left}
use Rattle.drf_rows.specs.Step.{effect, new_offers}
use Rattle.drf_row_laws.specs.LifeLaws.{is_cycle, other_agents, other_frameworks, OtherAgentsStay, OtherFrameworksStay, OthersStay, is_accept, other_offers, other_tasks, OtherHoldingsStay, EndedIsGone, RemovedIsGone, active_row, ActivityIsItsAgents, is_made_to, raised_row, with_counts, CycleOnlyOffers}
use Rattle.drf_rows.specs.declared.event.Event.{Event}
use Rattle.drf_rows.specs.declared.event.Event.TheVariants.{AddAgent, RemoveAgent, ActivateAgent, DeactivateAgent, SetAgent, AddFramework, SetFramework, RemoveFramework, Accept, Decline, Rescind, Finish, Suppress, Revive, Reserve, Unreserve, Cycle}
use Rattle.drf_rows.specs.declared.rows.AgentRow.{AgentRow}
use Rattle.drf_rows.specs.declared.rows.ClientRow.{ClientRow}
use Rattle.drf_rows.specs.declared.rows.FrameworkRow.{FrameworkRow}
use Rattle.drf_rows.specs.declared.rows.OfferRow.{OfferRow}
use Rattle.drf_rows.specs.declared.rows.TaskRow.{TaskRow}
use Rattle.drf_rows.specs.declared.rows.Rows.{Rows}

-- ---- lists

-- a row that does not pass the test is added last
filter-last : {X : Type 0} (p : X → Bool) (xs : List X) (x : X) → p x ≡ false → filter p (xs ++ x ∷ []) ≡ filter p xs
filter-last p xs x past = filter-out p xs [] x past ∙ ap (filter p) (append-nil xs)

-- only rows that do not pass the test are changed, and they do not pass it afterwards
filter-changed : {X : Type 0} (p : X → Bool) (f : X → X) (xs : List X)
    → ((x : X) → p x ≡ true → f x ≡ x) → ((x : X) → p x ≡ false → p (f x) ≡ false)
    → filter p (map f xs) ≡ filter p xs
filter-changed p f [] stays past = refl
filter-changed {X} p f (x ∷ xs) stays past = elim (cases_Bool (p x)) [
  | inl here ↦
      let same : p (f x) ≡ true = ap p (stays x here) ∙ here in
      rw (same, here) (λ i. stays x here i ∷ filter-changed p f xs stays past i)
  | inr other ↦ rw (past x other, other) (filter-changed p f xs stays past)
]

-- ---- a cycle

-- offers were made and counted
record MadeOffers (start after : Rows) : Type 0 where
  made : List OfferRow
  offers : after.offers ≡ start.offers ++ made
  counts : after.frameworks ≡ map (with_counts made) start.frameworks

-- without offers no count is raised
raised-none : (framework : Text) (cs : List ClientRow) → map (raised_row [] framework) cs ≡ cs
raised-none framework [] = refl
raised-none framework (c ∷ cs) =
    let same : c.count + 0 ≡ c.count = omega arith in
    λ i. record c { count = same i } ∷ raised-none framework cs i

counts-none : (fs : List FrameworkRow) → map (with_counts []) fs ≡ fs
counts-none [] = refl
counts-none (f ∷ fs) = λ i. record f { clients = raised-none f.name f.clients i } ∷ counts-none fs i

-- counting two lists of offers, one after the other
raised-both : (first second : List OfferRow) (framework : Text) (cs : List ClientRow)
    → map (raised_row second framework) (map (raised_row first framework) cs) ≡ map (raised_row (first ++ second) framework) cs
raised-both first second framework [] = refl
raised-both first second framework (c ∷ cs) =
    let to : OfferRow → Bool = is_made_to framework c.role in
    let sum : c.count + count_by to first + count_by to second ≡ c.count + count_by to (first ++ second)
    = omega (arith, sum_by-append (λ (o : OfferRow). cond (to o) 1 0) first second) in
    λ i. record c { count = sum i } ∷ raised-both first second framework cs i

counts-both : (first second : List OfferRow) (fs : List FrameworkRow)
    → map (with_counts second) (map (with_counts first) fs) ≡ map (with_counts (first ++ second)) fs
counts-both first second [] = refl
counts-both first second (f ∷ fs) =
    λ i. record f { clients = raised-both first second f.name f.clients i } ∷ counts-both first second fs i

-- one offer is counted as in the definition
abbrev raised_by : OfferRow → Bool → ClientRow → ClientRow
raised_by o here c = record c { count = c.count + count_by (λ p. here && same_path c.role p.role) (o ∷ []) }

raised-one : (o : OfferRow) (here : Bool) (cs : List ClientRow)
    → (if here then map (counted (holding_of_offer o).client) cs else cs) ≡ map (raised_by o here) cs
raised-one o true [] = refl
raised-one o false [] = refl
raised-one o true (c ∷ cs) = λ i. by (same_path c.role o.role) i ∷ raised-one o true cs i
  where
    by : (b : Bool) → (if b then record c { count = c.count + 1 } else c) ≡ record c { count = c.count + (0 + cond b 1 0) }
    by true = refl
    by false =
        let same : c.count ≡ c.count + (0 + 0) = omega arith in
        λ i. record c { count = same i }
raised-one o false (c ∷ cs) =
    let same : c.count ≡ c.count + (0 + 0) = omega arith in
    λ i. record c { count = same i } ∷ raised-one o false cs i

counts-one : (o : OfferRow) (fs : List FrameworkRow) → map (count_offer (holding_of_offer o).client) fs ≡ map (with_counts (o ∷ [])) fs
counts-one o [] = refl
counts-one o (f ∷ fs) =
    λ i. (by (same_text f.name o.framework) ∙ one) i ∷ counts-one o fs i
  where
    by : (b : Bool) → (if b then record f { clients = map (counted (holding_of_offer o).client) f.clients } else f)
        ≡ record f { clients = if b then map (counted (holding_of_offer o).client) f.clients else f.clients }
    by true = refl
    by false = refl

    one : record f { clients = if same_text f.name o.framework then map (counted (holding_of_offer o).client) f.clients else f.clients }
        ≡ with_counts (o ∷ []) f
    one = λ i. record f { clients = raised-one o (same_text f.name o.framework) f.clients i }

made_none : (rows : Rows) → MadeOffers rows rows
made_none rows = record { made = []; offers = sym (append-nil rows.offers); counts = sym (counts-none rows.frameworks) }

made_more : (start rows : Rows) (o : OfferRow) → MadeOffers start rows → MadeOffers start (with_offer rows o)
unfolding with_offer
made_more start rows o so = record {
  made = so.made ++ o ∷ [];
  offers = ap (λ (os : List OfferRow). os ++ o ∷ []) so.offers ∙ append_assoc start.offers so.made (o ∷ []);
  counts = counts-one o rows.frameworks
      ∙ ap (map (with_counts (o ∷ []))) so.counts
      ∙ counts-both so.made (o ∷ []) start.frameworks;
}

made_cycle : (rows : Rows) (at : ℕ) → MadeOffers (at_timestamp rows at) (cycle rows at)
unfolding cycle
made_cycle rows at =
    let start : Rows = at_timestamp rows at in
    any_turns (MadeOffers start) (made_more start) start (filter (λ a. a.active) rows.agents) (made_none start)

pub cycle_only_offers : CycleOnlyOffers
cycle_only_offers rows at =
    let so = made_cycle rows at in
    let new : so.made ≡ new_offers rows (cycle rows at) = sym (ap (drop (length rows.offers)) so.offers ∙ drop-append_seam rows.offers so.made) in
    record {
      nothing_else = cycle_only rows at;
      offers = so.offers ∙ ap (λ (os : List OfferRow). rows.offers ++ os) new;
      counts = so.counts ∙ ap (λ (os : List OfferRow). map (with_counts os) rows.frameworks) new;
    }

-- ---- other rows

agents_active : (name : Text) (active : Bool) (agents : List AgentRow)
    → filter (λ a. not (same_text a.name name)) (map (active_at name active) agents) ≡ filter (λ a. not (same_text a.name name)) agents
agents_active name active agents = filter-changed (λ a. not (same_text a.name name)) (active_at name active) agents stays past
  where
    stays : (a : AgentRow) → not (same_text a.name name) ≡ true → active_at name active a ≡ a
    stays a is = rw (not-true (same_text a.name name) is) refl

    past : (a : AgentRow) → not (same_text a.name name) ≡ false → not (same_text (active_at name active a).name name) ≡ false
    past a own = by (same_text a.name name)
      where
        by : (b : Bool) → not (same_text (if b then record a { active = active } else a).name name) ≡ false
        by true = own
        by false = own

agents_other_total : (name : Text) (made : List Resource → List Resource) (agents : List AgentRow)
    → filter (λ a. not (same_text a.name name)) (map (total_at name made) agents) ≡ filter (λ a. not (same_text a.name name)) agents
agents_other_total name made agents = filter-changed (λ a. not (same_text a.name name)) (total_at name made) agents stays past
  where
    stays : (a : AgentRow) → not (same_text a.name name) ≡ true → total_at name made a ≡ a
    stays a is = rw (not-true (same_text a.name name) is) refl

    past : (a : AgentRow) → not (same_text a.name name) ≡ false → not (same_text (total_at name made a).name name) ≡ false
    past a own = by (same_text a.name name)
      where
        by : (b : Bool) → not (same_text (if b then record a { total = made a.total } else a).name name) ≡ false
        by true = own
        by false = own

agents_left : (rows : Rows) (event : Event) → other_agents event (effect rows event).agents ≡ other_agents event rows.agents
unfolding effect
agents_left rows (AddAgent agent total) =
    filter-last (λ a. not (same_text a.name agent)) rows.agents (record { name = agent; total = total; active = true }) (ap not (same_itself agent))
agents_left rows (RemoveAgent agent) = filter-again (λ a. not (same_text a.name agent)) rows.agents
agents_left rows (ActivateAgent agent) = agents_active agent true rows.agents
agents_left rows (DeactivateAgent agent) = agents_active agent false rows.agents
agents_left rows (SetAgent agent total) = agents_other_total agent (λ old. total) rows.agents
agents_left rows (Reserve agent role resources) = agents_other_total agent (exchanged resources (relabel role resources)) rows.agents
agents_left rows (Unreserve agent role resources) = agents_other_total agent (exchanged (relabel role resources) resources) rows.agents
agents_left rows event = ap (λ (r : Rows). other_agents event r.agents) (only_changed rows event)

frameworks_suppressed : (client : Client) (suppressed : Bool) (frameworks : List FrameworkRow)
    → filter (λ f. not (same_text f.name client.framework)) (map (suppressed_in client suppressed) frameworks)
    ≡ filter (λ f. not (same_text f.name client.framework)) frameworks
frameworks_suppressed client suppressed frameworks =
    filter-changed (λ f. not (same_text f.name client.framework)) (suppressed_in client suppressed) frameworks stays past
  where
    stays : (f : FrameworkRow) → not (same_text f.name client.framework) ≡ true → suppressed_in client suppressed f ≡ f
    stays f is = rw (not-true (same_text f.name client.framework) is) refl

    past : (f : FrameworkRow) → not (same_text f.name client.framework) ≡ false
        → not (same_text (suppressed_in client suppressed f).name client.framework) ≡ false
    past f own = by (same_text f.name client.framework)
      where
        by : (b : Bool)
            → not (same_text (if b then record f { clients = map (suppressed_at client suppressed) f.clients } else f).name client.framework)
            ≡ false
        by true = own
        by false = own

frameworks_set : (name : Text) (roles : List Path) (frameworks : List FrameworkRow)
    → filter (λ f. not (same_text f.name name)) (map (roles_set_in name roles) frameworks) ≡ filter (λ f. not (same_text f.name name)) frameworks
frameworks_set name roles frameworks = filter-changed (λ f. not (same_text f.name name)) (roles_set_in name roles) frameworks stays past
  where
    stays : (f : FrameworkRow) → not (same_text f.name name) ≡ true → roles_set_in name roles f ≡ f
    stays f is = rw (not-true (same_text f.name name) is) refl

    past : (f : FrameworkRow) → not (same_text f.name name) ≡ false → not (same_text (roles_set_in name roles f).name name) ≡ false
    past f own = by (same_text f.name name)
      where
        by : (b : Bool) → not (same_text (if b then record f { clients = with_roles roles f.clients } else f).name name) ≡ false
        by true = own
        by false = own

frameworks_left : (rows : Rows) (event : Event) → is_cycle event ≡ false
    → other_frameworks event (effect rows event).frameworks ≡ other_frameworks event rows.frameworks
unfolding effect
frameworks_left rows (AddFramework framework roles) no_cycle =
    filter-last (λ f. not (same_text f.name framework)) rows.frameworks
    (record { name = framework; clients = map new_client (distinct roles) }) (ap not (same_itself framework))
frameworks_left rows (SetFramework framework roles) no_cycle = frameworks_set framework roles rows.frameworks
frameworks_left rows (RemoveFramework framework) no_cycle = filter-again (λ f. not (same_text f.name framework)) rows.frameworks
frameworks_left rows (Suppress framework role) no_cycle =
    frameworks_suppressed (record { role = role; framework = framework }) true rows.frameworks
frameworks_left rows (Revive framework role) no_cycle =
    frameworks_suppressed (record { role = role; framework = framework }) false rows.frameworks
frameworks_left rows (Cycle at) no_cycle = absurd (false≢true (sym no_cycle))
frameworks_left rows event no_cycle = ap (λ (r : Rows). other_frameworks event r.frameworks) (only_changed rows event)

pub other_agents_stay : OtherAgentsStay
other_agents_stay limits rows event =
    step_keeps (λ after. other_agents event after.agents ≡ other_agents event rows.agents) limits rows event refl (agents_left rows event)

pub other_frameworks_stay : OtherFrameworksStay
other_frameworks_stay limits rows event no_cycle =
    step_keeps (λ after. other_frameworks event after.frameworks ≡ other_frameworks event rows.frameworks) limits rows event refl
    (frameworks_left rows event no_cycle)

-- ---- removed rows

none-found : {X : Type 0} (p : X → Bool) (xs : List X) → find p xs ≡ None → xs ≡ filter (λ x. not (p x)) xs
none-found p [] none = refl
none-found {X} p (x ∷ xs) none = elim (cases_Bool (p x)) [
  | inl here ↦
      let found : ◌≡◌ {A = Option X} (Some x) None = sym (ap (λ (b : Bool). cond b (Some x) (find p xs)) here) ∙ none in
      cc
  | inr past ↦
      let later : find p xs ≡ None = sym (ap (λ (b : Bool). cond b (Some x) (find p xs)) past) ∙ none in
      rw past (ap (λ (ys : List X). x ∷ ys) (none-found p xs later))
]

number_gone : (rows : Rows) (number : ℕ) (o : OfferRow) → offer_at rows number ≡ Some o
    → filter (λ p. not (p.number == o.number)) rows.offers ≡ filter (λ p. not (p.number == number)) rows.offers
number_gone rows number o found =
    ap (λ (n : ℕ). filter (λ (p : OfferRow). not (p.number == n)) rows.offers)
    (eqb-true o.number number (find-place (λ (p : OfferRow). p.number == number) rows.offers o found).1)

gone-accepted : (rows : Rows) (at : ℕ) (starts : List Start) (refuse_ms number : ℕ) (found : Option OfferRow) → offer_at rows number ≡ found
    → (option_map_or (λ o. offer_accepted (at_timestamp rows at) o starts refuse_ms) found rows).offers
    ≡ filter (λ p. not (p.number == number)) rows.offers
gone-accepted rows at starts refuse_ms number None there = none-found (λ (p : OfferRow). p.number == number) rows.offers there
gone-accepted rows at starts refuse_ms number (Some o) there = number_gone rows number o there

gone-declined : (rows : Rows) (at refuse_ms number : ℕ) (found : Option OfferRow) → offer_at rows number ≡ found
    → (option_map_or (λ o. offer_declined (at_timestamp rows at) o refuse_ms) found rows).offers
    ≡ filter (λ p. not (p.number == number)) rows.offers
gone-declined rows at refuse_ms number None there = none-found (λ (p : OfferRow). p.number == number) rows.offers there
gone-declined rows at refuse_ms number (Some o) there = number_gone rows number o there

offers_gone : (rows : Rows) (event : Event) → is_cycle event ≡ false → (effect rows event).offers ≡ other_offers event rows.offers
unfolding effect
offers_gone rows (Accept a) no_cycle =
    gone-accepted rows a.at a.tasks a.refuse_ms a.offer (offer_at rows a.offer) refl
offers_gone rows (Decline d) no_cycle = gone-declined rows d.at d.refuse_ms d.offer (offer_at rows d.offer) refl
offers_gone rows (Cycle at) no_cycle = absurd (false≢true (sym no_cycle))
offers_gone rows event no_cycle = ap (λ (r : Rows). r.offers) (only_changed rows event)

tasks_gone : (rows : Rows) (event : Event) → is_accept event ≡ false → (effect rows event).tasks ≡ other_tasks event rows.tasks
unfolding effect
tasks_gone rows (Accept a) no_accept = absurd (false≢true (sym no_accept))
tasks_gone rows event no_accept = ap (λ (r : Rows). r.tasks) (only_changed rows event)

pub ended_is_gone : EndedIsGone
ended_is_gone rows event = record { offers = offers_gone rows event; tasks = tasks_gone rows event }

-- ---- remaining rows

offers_again : (event : Event) (offers : List OfferRow) → other_offers event (other_offers event offers) ≡ other_offers event offers
offers_again (RemoveAgent agent) offers = filter-again (λ o. not (same_text o.agent agent)) offers
offers_again (DeactivateAgent agent) offers = filter-again (λ o. not (same_text o.agent agent)) offers
offers_again (RemoveFramework framework) offers = filter-again (λ o. not (same_text o.framework framework)) offers
offers_again (Accept a) offers = filter-again (λ o. not (o.number == a.offer)) offers
offers_again (Decline d) offers = filter-again (λ o. not (o.number == d.offer)) offers
offers_again (Rescind offer) offers = filter-again (λ o. not (o.number == offer)) offers
offers_again event offers = refl

tasks_again : (event : Event) (tasks : List TaskRow) → other_tasks event (other_tasks event tasks) ≡ other_tasks event tasks
tasks_again (RemoveAgent agent) tasks = filter-again (λ t. not (same_text t.agent agent)) tasks
tasks_again (RemoveFramework framework) tasks = filter-again (λ t. not (same_text t.framework framework)) tasks
tasks_again (Finish framework task) tasks = filter-again (λ t. not (is_task framework task t)) tasks
tasks_again event tasks = refl

pub other_holdings_stay : OtherHoldingsStay
other_holdings_stay limits rows event =
    step_keeps (OthersStay event rows) limits rows event (record { offers = λ no_cycle. refl; tasks = λ no_accept. refl }) (record {
      offers = λ no_cycle. ap (other_offers event) (offers_gone rows event no_cycle) ∙ offers_again event rows.offers;
      tasks = λ no_accept. ap (other_tasks event) (tasks_gone rows event no_accept) ∙ tasks_again event rows.tasks;
    })

-- ---- the row of the event

pub removed_is_gone : RemovedIsGone
unfolding effect
removed_is_gone rows name = (
  none_left (λ (a : AgentRow). same_text a.name name) rows.agents,
  none_left (λ (f : FrameworkRow). same_text f.name name) rows.frameworks,
)

-- each agent with the name is made active or inactive
own_active : (test : Bool → Bool) (name : Text) (active : Bool) → test active ≡ true → (agents : List AgentRow)
    → list_all (λ a. not (same_text a.name name) || test a.active) (map (active_at name active) agents) ≡ true
own_active test name active is [] = refl
own_active test name active is (a ∷ agents) = and_from _ _ (by (same_text a.name name) refl) (own_active test name active is agents)
  where
    by : (b : Bool) → same_text a.name name ≡ b
        → (not (same_text (if b then record a { active = active } else a).name name) || test (if b then record a { active = active } else a).active) ≡ true
    by true here = ap (λ (b : Bool). not (same_text a.name name) || b) is ∙ or-true (not (same_text a.name name))
    by false past = ap (λ (b : Bool). not b || test a.active) past

-- nothing else of an agent is changed
all_as_were : (name : Text) (active : Bool) (agents : List AgentRow) → map active_row (map (active_at name active) agents) ≡ map active_row agents
all_as_were name active [] = refl
all_as_were name active (a ∷ agents) = λ i. by (same_text a.name name) i ∷ all_as_were name active agents i
  where
    by : (b : Bool) → active_row (if b then record a { active = active } else a) ≡ active_row a
    by true = refl
    by false = refl

pub activity_is_its_agents : ActivityIsItsAgents
unfolding effect
activity_is_its_agents rows name = (
  record {
    agent_active = own_active (λ b. b) name true refl rows.agents;
    nothing_else_there = all_as_were name true rows.agents;
    only_agents = refl;
  },
  record {
    agent_inactive = own_active not name false refl rows.agents;
    nothing_else_there = all_as_were name false rows.agents;
    only_agents_and_offers = λ i. record rows {
      agents = map (active_at name false) rows.agents;
      offers = filter (λ o. not (same_text o.agent name)) rows.offers;
      tasks = all_stay rows.tasks i;
    };
  },
)
