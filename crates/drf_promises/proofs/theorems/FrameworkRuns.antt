-- Clusters that are alike except for names stay alike in runs that differ only in names.
use Rattle.std.specs.Prelude.{◌≡◌, ℕ, ◌+◌, ◌==◌, max, Bool, true, false, not, ◌&&◌, ◌||◌, List, [], ◌∷◌, ◌++◌, map, filter, drop, find, is_some, length, sum_by, flat_map, Option, Some, None, nat_lt}
use Rattle.std.specs.List.{AllByRecursion, list_any}
use Rattle.std.specs.Option.{option_map, option_map_or}
use Rattle.std.proofs.Common.{refl, sym, ap, subst, ◌∙◌, inl, inr, arith}
use Rattle.std.proofs.lemmas.Bool.{cases_Bool, and_parts, or_cases, true≢false}
use Rattle.std.proofs.lemmas.List.{drop-map, length-map, map-append}
use Rattle.std.proofs.lemmas.Grind.{flat_map-append}
use Rattle.std.proofs.lemmas.List.Folds.{list_any-append}
use Rattle.std.proofs.lemmas.List.Sums.{sum_by-append, sum_by-cons}
use Rattle.std.proofs.lemmas.Simd.{map-map}
use Rattle.drf_role.specs.Path.{Path, begins_with, same_path}
use Rattle.drf_role.specs.PathLaws.{same_path-true}
use Rattle.drf_role.specs.Text.{Text, same_text}
use Rattle.drf_bundle.specs.Bundle.{relabel}
use Rattle.drf_bundle.specs.Taken.{rest_of_all}
use Rattle.drf_rows.specs.Client.{Client, path_of}
use Rattle.drf_rows.specs.Consistent.{IsConsistent}
use Rattle.drf_rows.specs.Cycle.{at_timestamp}
use Rattle.drf_rows.specs.Releases.{Release, ends_offer, ends_task, without_ended, one_offer, one_task, offers_on, all_on}
use Rattle.drf_rows.specs.Filters.{in_force, is_on_agent}
use Rattle.drf_rows.specs.Held.{active_clients, client_of, count_of}
use Rattle.drf_rows.specs.LimitNumbers.{LimitNumbers}
use Rattle.drf_rows.specs.Members.{active_at, distinct, new_client}
use Rattle.drf_rows.specs.Offers.{filters_all, filters_rest, is_empty, offer_accepted, offer_at, offer_declined, task_of}
use Rattle.drf_rows.specs.Step.{refusal_of, effect, answer, line_reported, replies_to, reply_to, rows_after}
use Rattle.drf_rows.specs.Quota.{limits_with}
use Rattle.drf_rows.specs.Tasks.{Start, uses}
use Rattle.drf_rows.specs.Totals.{exchanged, total_at}
use Rattle.drf_rows.specs.Weights.{weights_with}
use Rattle.drf_row_laws.specs.LifeLaws.{lines_reported}
use Rattle.drf_bundle.proofs.ListLaws.{each_filter}
use Rattle.drf_row_laws.proofs.StepLaws.{reply_to-accepted, reply_to-refused, rows_after-accepted, rows_after-refused}
use Rattle.drf_rows.specs.declared.event.Event.{Event}
use Rattle.drf_rows.specs.declared.event.Event.TheVariants.{AddAgent, RemoveAgent, ActivateAgent, DeactivateAgent, SetAgent, AddFramework, SetFramework, RemoveFramework, Accept, Decline, Rescind, Finish, Suppress, Revive, Reserve, Unreserve, SetWeight, SetLimit, Cycle, Report}
use Rattle.drf_rows.specs.declared.reply.OfferLine.{OfferLine}
use Rattle.drf_rows.specs.declared.reply.Refusal.{Refusal}
use Rattle.drf_rows.specs.declared.reply.Reply.{Reply}
use Rattle.drf_rows.specs.declared.rows.AgentRow.{AgentRow}
use Rattle.drf_rows.specs.declared.rows.ClientRow.{ClientRow}
use Rattle.drf_rows.specs.declared.rows.FilterRow.{FilterRow}
use Rattle.drf_rows.specs.declared.rows.FrameworkRow.{FrameworkRow}
use Rattle.drf_rows.specs.declared.rows.LimitRow.{LimitRow}
use Rattle.drf_rows.specs.declared.rows.OfferRow.{OfferRow}
use Rattle.drf_rows.specs.declared.rows.Rows.{Rows}
use Rattle.drf_rows.specs.declared.rows.TaskRow.{TaskRow}
use Rattle.drf_rows.specs.declared.rows.WeightRow.{WeightRow}
use Rattle.drf_laws.proofs.theorems.Runs.{IsConsistent-after}
use Rattle.drf_laws.proofs.theorems.Welcome.{early_cycle}
use Rattle.drf_promises.specs.Cycles.{IsUnfiltered}
use Rattle.drf_promises.specs.Frameworks.{unnamed_offer, unnamed_task, has_part, StandAlike, EachStandsAsItself, OneMoreStandsAlike, Names, with_names, finished, ComesToTheSame, in_both, comes, events_of_one, events_of_other, NobodyGoes, to_role, MoreFrameworksGainNothing}
use Rattle.drf_promises.proofs.theorems.FrameworkTurns.{cycle-alike}
use Rattle.drf_promises.proofs.theorems.Unfiltered.{no_filter, set_in_force, unfiltered_later, unfiltered_left, unfiltered_still}

pub each_stands_as_itself : EachStandsAsItself
each_stands_as_itself rows unfiltered = record {
  agents = refl;
  weights = refl;
  limits = refl;
  next_offer = refl;
  offers = refl;
  tasks = refl;
  parts = λ role. refl;
  counts = λ node roles. refl;
  unfiltered = unfiltered;
  unfiltered_too = unfiltered;
}

-- ---- one more framework

no_counts : (f : ClientRow → Bool) (roles : List Path) → sum_by (λ (c : ClientRow). c.count) (filter f (map new_client roles)) ≡ 0
no_counts f [] = refl
no_counts f (role ∷ roles) = elim (cases_Bool (f (new_client role))) [
  | inl here ↦ rw here (no_counts f roles)
  | inr past ↦ rw past (no_counts f roles)
]

each_distinct : (P : Path → Type 0) (roles : List Path) → AllByRecursion P roles → AllByRecursion P (distinct roles)
each_distinct P [] all = tt
each_distinct P (role ∷ roles) all =
    (all.0, each_filter P (λ r. not (same_path role r)) (distinct roles) (each_distinct P roles all.1))

or_same : (a b : Bool) → (b ≡ true → a ≡ true) → (a || b) ≡ a
or_same true b follows = refl
or_same false true follows = sym (follows refl)
or_same false false follows = refl

module _ (rows : Rows) (framework : Text) (roles : List Path) where
  abbrev joined_by : Rows
  joined_by = effect rows (AddFramework framework roles)

  abbrev new : FrameworkRow
  new = record { name = framework; clients = map new_client (distinct roles) }

  same_counts : (node : Path) → count_of joined_by node ≡ count_of rows node
  unfolding effect
  same_counts node =
      let count_in : FrameworkRow → ℕ = λ f. sum_by (λ (c : ClientRow). c.count) (filter (λ c. begins_with (path_of (client_of f c)) node) f.clients) in
      omega (
        arith,
        sum_by-append count_in rows.frameworks (new ∷ []),
        sum_by-cons count_in new [],
        no_counts (λ c. begins_with (path_of (client_of new c)) node) (distinct roles),
      )

  -- the role is one of those in which the new framework registers
  abbrev is_new_part : List Path → Path → Bool
  is_new_part ds role =
      list_any (λ (c : Client). same_path c.role role) (map (client_of new) (filter (λ c. not c.suppressed) (map new_client ds)) ++ [])

  parts_after : (role : Path) → has_part joined_by role ≡ (has_part rows role || is_new_part (distinct roles) role)
  unfolding effect
  parts_after role =
      let p : Client → Bool = λ c. same_path c.role role in
      ap (list_any p) (flat_map-append (λ f. map (client_of f) (filter (λ c. not c.suppressed) f.clients)) rows.frameworks (new ∷ []))
      ∙ list_any-append p (active_clients rows) (map (client_of new) (filter (λ c. not c.suppressed) new.clients) ++ [])

  new_part : (role : Path) (ds : List Path) → AllByRecursion (λ r. has_part rows r ≡ true) ds → is_new_part ds role ≡ true → has_part rows role ≡ true
  new_part role [] all some = cc
  new_part role (d ∷ ds) all some =
      elim (or_cases (same_path d role) _ some) [
        | inl same ↦ subst (λ (r : Path). has_part rows r ≡ true) (same_path-true d role same) all.0
        | inr later ↦ new_part role ds all.1 later
      ]

-- the framework registers in one of the two clusters, or in both
module _ (rows other : Rows) (alike : StandAlike rows other) (framework : Text) (roles : List Path) where
  comes-other : AllByRecursion (λ role. has_part other role ≡ true) roles → StandAlike rows (effect other (AddFramework framework roles))
  unfolding effect
  comes-other have = record {
    agents = alike.agents;
    weights = alike.weights;
    limits = alike.limits;
    next_offer = alike.next_offer;
    offers = alike.offers;
    tasks = alike.tasks;
    parts = λ role.
        parts_after other framework roles role
        ∙ or_same (has_part other role) _
        (new_part other framework roles role (distinct roles) (each_distinct (λ r. has_part other r ≡ true) roles have))
        ∙ alike.parts role;
    counts = λ node of_roles. same_counts other framework roles node ∙ alike.counts node of_roles;
    unfiltered = alike.unfiltered;
    unfiltered_too = alike.unfiltered_too;
  }

  comes-both : StandAlike (effect rows (AddFramework framework roles)) (effect other (AddFramework framework roles))
  unfolding effect
  comes-both = record {
    agents = alike.agents;
    weights = alike.weights;
    limits = alike.limits;
    next_offer = alike.next_offer;
    offers = alike.offers;
    tasks = alike.tasks;
    parts = λ role.
        parts_after other framework roles role
        ∙ ap (λ b. b || is_new_part other framework roles (distinct roles) role) (alike.parts role)
        ∙ sym (parts_after rows framework roles role);
    counts = λ node of_roles.
        same_counts other framework roles node ∙ alike.counts node of_roles ∙ sym (same_counts rows framework roles node);
    unfiltered = alike.unfiltered;
    unfiltered_too = alike.unfiltered_too;
  }

pub one_more_stands_alike : OneMoreStandsAlike
one_more_stands_alike rows other framework roles alike have = comes-other rows other alike framework roles have

-- ---- removed rows and rows that are found

module _ {X Y : Type 0} (u : X → Y) where
  -- if two lists are alike and the same places pass a test, what passes is alike
  left-alike : (p q : X → Bool) (xs ys : List X) → map u ys ≡ map u xs → map q ys ≡ map p xs
      → map u (filter (λ y. not (q y)) ys) ≡ map u (filter (λ x. not (p x)) xs)
  left-alike p q [] [] same tests = refl
  left-alike p q [] (y ∷ ys) same tests = cc
  left-alike p q (x ∷ xs) [] same tests = cc
  left-alike p q (x ∷ xs) (y ∷ ys) same tests =
      let test : q y ≡ p x = cc in
      let first : u y ≡ u x = cc in
      let more : map u ys ≡ map u xs = cc in
      let later = left-alike p q xs ys more cc in
      elim (cases_Bool (p x)) [
        | inl goes ↦
            let gone : q y ≡ true = test ∙ goes in
            rw (goes, gone) later
        | inr stays ↦
            let stood : q y ≡ false = test ∙ stays in
            rw (stays, stood) (λ i. first i ∷ later i)
      ]

  -- if a test gives the same for elements that are alike, the elements that it finds are alike
  found-alike : (p : X → Bool) → ((x y : X) → u y ≡ u x → p y ≡ p x) → (xs ys : List X) → map u ys ≡ map u xs
      → option_map u (find p ys) ≡ option_map u (find p xs)
  found-alike p tells [] [] same = refl
  found-alike p tells [] (y ∷ ys) same = cc
  found-alike p tells (x ∷ xs) [] same = cc
  found-alike p tells (x ∷ xs) (y ∷ ys) same =
      let first : u y ≡ u x = cc in
      let more : map u ys ≡ map u xs = cc in
      let test : p y ≡ p x = tells x y first in
      let later = found-alike p tells xs ys more in
      elim (cases_Bool (p x)) [
        | inl here ↦
            let too : p y ≡ true = test ∙ here in
            rw (here, too) (ap (λ (z : Y). Some z) first)
        | inr past ↦
            let too : p y ≡ false = test ∙ past in
            rw (past, too) later
      ]

-- ---- release of resources

-- the same offers and tasks end
module _ (rows other : Rows) (alike : StandAlike rows other) where
  ended-alike : (release same : Release) → map (ends_offer same) other.offers ≡ map (ends_offer release) rows.offers
      → map (ends_task same) other.tasks ≡ map (ends_task release) rows.tasks → StandAlike (without_ended rows release) (without_ended other same)
  ended-alike release same offers tasks = record {
    agents = alike.agents;
    weights = alike.weights;
    limits = alike.limits;
    next_offer = alike.next_offer;
    offers = left-alike unnamed_offer (ends_offer release) (ends_offer same) rows.offers other.offers alike.offers offers;
    tasks = left-alike unnamed_task (ends_task release) (ends_task same) rows.tasks other.tasks alike.tasks tasks;
    parts = alike.parts;
    counts = alike.counts;
    unfiltered = alike.unfiltered;
    unfiltered_too = alike.unfiltered_too;
  }

  -- tests that do not depend on names
  tests-offers : (p : OfferRow → Bool) → ((o : OfferRow) → p (unnamed_offer o) ≡ p o) → map p other.offers ≡ map p rows.offers
  tests-offers p blind =
      (λ i. map (λ o. sym (blind o) i) other.offers)
      ∙ sym (map-map p unnamed_offer other.offers)
      ∙ ap (map p) alike.offers
      ∙ map-map p unnamed_offer rows.offers
      ∙ (λ i. map (λ o. blind o i) rows.offers)

  tests-tasks : (p : TaskRow → Bool) → ((t : TaskRow) → p (unnamed_task t) ≡ p t) → map p other.tasks ≡ map p rows.tasks
  tests-tasks p blind =
      (λ i. map (λ t. sym (blind t) i) other.tasks)
      ∙ sym (map-map p unnamed_task other.tasks)
      ∙ ap (map p) alike.tasks
      ∙ map-map p unnamed_task rows.tasks
      ∙ (λ i. map (λ t. blind t i) rows.tasks)

  same_ended : (release : Release) → ((o : OfferRow) → ends_offer release (unnamed_offer o) ≡ ends_offer release o)
      → ((t : TaskRow) → ends_task release (unnamed_task t) ≡ ends_task release t) → StandAlike (without_ended rows release) (without_ended other release)
  same_ended release offers tasks = ended-alike release release (tests-offers (ends_offer release) offers) (tests-tasks (ends_task release) tasks)

  offer_at-alike : (number : ℕ) → option_map unnamed_offer (offer_at other number) ≡ option_map unnamed_offer (offer_at rows number)
  offer_at-alike number =
      found-alike unnamed_offer (λ o. o.number == number) (λ x y same. ap (λ (o : OfferRow). o.number == number) same) rows.offers other.offers alike.offers

-- ---- other tables

module _ (rows other : Rows) (alike : StandAlike rows other) where
  agents_changed : (now too : List AgentRow) → too ≡ now → StandAlike (record rows { agents = now }) (record other { agents = too })
  agents_changed now too same = record {
    agents = same;
    weights = alike.weights;
    limits = alike.limits;
    next_offer = alike.next_offer;
    offers = alike.offers;
    tasks = alike.tasks;
    parts = alike.parts;
    counts = alike.counts;
    unfiltered = alike.unfiltered;
    unfiltered_too = alike.unfiltered_too;
  }

  weights_changed : (now too : List WeightRow) → too ≡ now → StandAlike (record rows { weights = now }) (record other { weights = too })
  weights_changed now too same = record {
    agents = alike.agents;
    weights = same;
    limits = alike.limits;
    next_offer = alike.next_offer;
    offers = alike.offers;
    tasks = alike.tasks;
    parts = alike.parts;
    counts = alike.counts;
    unfiltered = alike.unfiltered;
    unfiltered_too = alike.unfiltered_too;
  }

  limits_changed : (now too : List LimitRow) → too ≡ now → StandAlike (record rows { limits = now }) (record other { limits = too })
  limits_changed now too same = record {
    agents = alike.agents;
    weights = alike.weights;
    limits = same;
    next_offer = alike.next_offer;
    offers = alike.offers;
    tasks = alike.tasks;
    parts = alike.parts;
    counts = alike.counts;
    unfiltered = alike.unfiltered;
    unfiltered_too = alike.unfiltered_too;
  }

  -- the two states with other filters, clocks and numbers of events are still alike
  settled : (now too : List FilterRow) (clock late events more : ℕ) → in_force clock now ≡ [] → in_force late too ≡ []
      → StandAlike (record rows { filters = now; clock = clock; events = events }) (record other { filters = too; clock = late; events = more })
  settled now too clock late events more none none_too = record {
    agents = alike.agents;
    weights = alike.weights;
    limits = alike.limits;
    next_offer = alike.next_offer;
    offers = alike.offers;
    tasks = alike.tasks;
    parts = alike.parts;
    counts = alike.counts;
    unfiltered = none;
    unfiltered_too = none_too;
  }

-- ---- accepting and declining an offer

abbrev renamed : Names → List Start → List Start
renamed names starts = map (λ s. (names.task s.0, s.1)) starts

uses-renamed : (names : Names) (starts : List Start) → uses (renamed names starts) ≡ uses starts
uses-renamed names starts = map-map (λ (s : Start). s.1) (λ s. (names.task s.0, s.1)) starts

module _ (rows other : Rows) (alike : StandAlike rows other) (at refuse_ms : ℕ) where
  unfiltered_then : in_force (max other.clock at) other.filters ≡ []
  unfiltered_then = unfiltered_later other.clock other.filters alike.unfiltered_too (max other.clock at) (omega arith)

  module _ (o p : OfferRow) (same : unnamed_offer p ≡ unnamed_offer o) where
    closed : StandAlike (without_ended rows (one_offer o.number)) (without_ended other (one_offer p.number))
    closed =
        ended-alike rows other alike (one_offer o.number) (one_offer p.number)
        ((λ i. map (λ (q : OfferRow). q.number == (same i).number) other.offers)
        ∙ tests-offers rows other alike (ends_offer (one_offer o.number)) (λ q. refl))
        (tests-tasks rows other alike (ends_task (one_offer o.number)) (λ t. refl))

    declined-alike : IsUnfiltered (offer_declined (at_timestamp rows at) o refuse_ms)
        → StandAlike (offer_declined (at_timestamp rows at) o refuse_ms) (offer_declined (at_timestamp other at) p refuse_ms)
    declined-alike none =
        let never : filters_all refuse_ms ≡ false =
        no_filter (max rows.clock at) (filters_all refuse_ms) rows.filters _ (set_in_force (max rows.clock at) refuse_ms) none in
        settled (without_ended rows (one_offer o.number)) (without_ended other (one_offer p.number)) closed
        (offer_declined (at_timestamp rows at) o refuse_ms).filters (offer_declined (at_timestamp other at) p refuse_ms).filters
        (at_timestamp rows at).clock (at_timestamp other at).clock rows.events other.events none
        (unfiltered_still (max other.clock at) (filters_all refuse_ms) other.filters _ never unfiltered_then)

    module _ (names : Names) (starts : List Start) where
      abbrev too : List Start
      too = renamed names starts

      started-alike : map unnamed_task (map (task_of p) too) ≡ map unnamed_task (map (task_of o) starts)
      started-alike =
          map-map unnamed_task (task_of p) too
          ∙ map-map (λ s. unnamed_task (task_of p s)) (λ s. (names.task s.0, s.1)) starts
          ∙ (λ i. map (λ (s : Start). record { name = []; agent = (same i).agent; framework = []; role = (same i).role; bundle = s.1 }) starts)
          ∙ sym (map-map unnamed_task (task_of o) starts)

      rest-alike : filters_rest p too refuse_ms ≡ filters_rest o starts refuse_ms
      rest-alike = λ i. nat_lt 0 refuse_ms && not (is_empty (rest_of_all (same i).bundle (uses-renamed names starts i)))

      accepted-alike : IsUnfiltered (offer_accepted (at_timestamp rows at) o starts refuse_ms)
          → StandAlike (offer_accepted (at_timestamp rows at) o starts refuse_ms) (offer_accepted (at_timestamp other at) p too refuse_ms)
      accepted-alike none =
          let never : filters_rest o starts refuse_ms ≡ false =
          no_filter (max rows.clock at) (filters_rest o starts refuse_ms) rows.filters _
          (λ sets. set_in_force (max rows.clock at) refuse_ms (and_parts (nat_lt 0 refuse_ms) _ sets).0) none in
          record {
            agents = alike.agents;
            weights = alike.weights;
            limits = alike.limits;
            next_offer = alike.next_offer;
            offers = closed.offers;
            tasks =
                map-append unnamed_task other.tasks (map (task_of p) too)
                ∙ (λ i. alike.tasks i ++ started-alike i)
                ∙ sym (map-append unnamed_task rows.tasks (map (task_of o) starts));
            parts = alike.parts;
            counts = alike.counts;
            unfiltered = none;
            unfiltered_too = unfiltered_still (max other.clock at) (filters_rest p too refuse_ms) other.filters _ (rest-alike ∙ never) unfiltered_then;
          }

  after_decline : (found too : Option OfferRow) → option_map unnamed_offer too ≡ option_map unnamed_offer found
      → IsUnfiltered (option_map_or (λ o. offer_declined (at_timestamp rows at) o refuse_ms) found rows)
      → StandAlike (option_map_or (λ o. offer_declined (at_timestamp rows at) o refuse_ms) found rows)
      (option_map_or (λ o. offer_declined (at_timestamp other at) o refuse_ms) too other)
  after_decline None None same none = alike
  after_decline None (Some p) same none = cc
  after_decline (Some o) None same none = cc
  after_decline (Some o) (Some p) same none = let one : unnamed_offer p ≡ unnamed_offer o = cc in declined-alike o p one none

  after_accept : (names : Names) (starts : List Start) (found too : Option OfferRow) → option_map unnamed_offer too ≡ option_map unnamed_offer found
      → IsUnfiltered (option_map_or (λ o. offer_accepted (at_timestamp rows at) o starts refuse_ms) found rows)
      → StandAlike (option_map_or (λ o. offer_accepted (at_timestamp rows at) o starts refuse_ms) found rows)
      (option_map_or (λ o. offer_accepted (at_timestamp other at) o (renamed names starts) refuse_ms) too other)
  after_accept names starts None None same none = alike
  after_accept names starts None (Some p) same none = cc
  after_accept names starts (Some o) None same none = cc
  after_accept names starts (Some o) (Some p) same none =
      let one : unnamed_offer p ≡ unnamed_offer o = cc in accepted-alike o p one names starts none

-- ---- an event

module _ (limits : LimitNumbers) (rows other : Rows) (consistent : IsConsistent rows) (right : IsConsistent other) (alike : StandAlike rows other) where
  effect-alike : (event : Event) (names : Names) → NobodyGoes event → refusal_of limits rows event ≡ None
      → finished other (with_names names event) ≡ finished rows event → IsUnfiltered (effect rows event)
      → StandAlike (effect rows event) (effect other (with_names names event))
  unfolding effect
  effect-alike (AddAgent agent total) names keeps accepted finishes none =
      agents_changed rows other alike _ _ (λ i. alike.agents i ++ record { name = agent; total = total; active = true } ∷ [])
  effect-alike (RemoveAgent agent) names keeps accepted finishes none =
      let gone = same_ended rows other alike (all_on agent) (λ o. refl) (λ t. refl) in
      record {
        agents = ap (filter (λ (a : AgentRow). not (same_text a.name agent))) alike.agents;
        weights = alike.weights;
        limits = alike.limits;
        next_offer = alike.next_offer;
        offers = gone.offers;
        tasks = gone.tasks;
        parts = alike.parts;
        counts = alike.counts;
        unfiltered = none;
        unfiltered_too = unfiltered_left other.clock other.filters alike.unfiltered_too (λ f. not (is_on_agent agent f));
      }
  effect-alike (ActivateAgent agent) names keeps accepted finishes none =
      agents_changed rows other alike _ _ (λ i. map (active_at agent true) (alike.agents i))
  effect-alike (DeactivateAgent agent) names keeps accepted finishes none =
      agents_changed (without_ended rows (offers_on agent)) (without_ended other (offers_on agent))
      (same_ended rows other alike (offers_on agent) (λ o. refl) (λ t. refl)) _ _ (λ i. map (active_at agent false) (alike.agents i))
  effect-alike (SetAgent agent total) names keeps accepted finishes none =
      agents_changed rows other alike _ _ (λ i. map (total_at agent (λ old. total)) (alike.agents i))
  effect-alike (AddFramework framework roles) names keeps accepted finishes none = comes-both rows other alike framework roles
  effect-alike (SetFramework framework roles) names keeps accepted finishes none = absurd keeps
  effect-alike (RemoveFramework framework) names keeps accepted finishes none = absurd keeps
  effect-alike (Accept a) names keeps accepted finishes none =
      after_accept rows other alike a.at a.refuse_ms names a.tasks (offer_at rows a.offer) (offer_at other a.offer) (offer_at-alike rows other alike a.offer) none
  effect-alike (Decline d) names keeps accepted finishes none =
      after_decline rows other alike d.at d.refuse_ms (offer_at rows d.offer) (offer_at other d.offer) (offer_at-alike rows other alike d.offer) none
  effect-alike (Rescind offer) names keeps accepted finishes none = same_ended rows other alike (one_offer offer) (λ o. refl) (λ t. refl)
  effect-alike (Finish framework task) names keeps accepted finishes none =
      ended-alike rows other alike (one_task framework task) (one_task names.framework (names.task task))
      (tests-offers rows other alike (λ o. false) (λ o. refl)) finishes
  effect-alike (Suppress framework role) names keeps accepted finishes none = absurd keeps
  effect-alike (Revive framework role) names keeps accepted finishes none = absurd keeps
  effect-alike (Reserve agent role resources) names keeps accepted finishes none =
      agents_changed rows other alike _ _ (λ i. map (total_at agent (exchanged resources (relabel role resources))) (alike.agents i))
  effect-alike (Unreserve agent role resources) names keeps accepted finishes none =
      agents_changed rows other alike _ _ (λ i. map (total_at agent (exchanged (relabel role resources) resources)) (alike.agents i))
  effect-alike (SetWeight role weight) names keeps accepted finishes none =
      weights_changed rows other alike _ _ (λ i. weights_with (alike.weights i) role weight)
  effect-alike (SetLimit role limit) names keeps accepted finishes none =
      limits_changed rows other alike _ _ (λ i. limits_with (alike.limits i) role limit)
  effect-alike (Cycle at) names keeps accepted finishes none = cycle-alike rows other at consistent right (early_cycle limits rows at accepted) alike
  effect-alike Report names keeps accepted finishes none = alike

-- ---- replies

abbrev reported_to_roles : Reply → List OfferLine
reported_to_roles reply = map to_role (lines_reported reply)

reported_by_offers : (n : ℕ) (os : List OfferRow) → map to_role (map line_reported (drop n os)) ≡ map line_reported (drop n (map unnamed_offer os))
reported_by_offers n os =
    map-map to_role line_reported (drop n os)
    ∙ sym (map-map line_reported unnamed_offer (drop n os))
    ∙ ap (map line_reported) (sym (drop-map unnamed_offer n os))

answer-alike : (rows other : Rows) (event : Event) (names : Names) → StandAlike rows other
    → StandAlike (effect rows event) (effect other (with_names names event))
    → reported_to_roles (answer other (effect other (with_names names event)) (with_names names event)) ≡ reported_to_roles (answer rows (effect rows event) event)
answer-alike rows other (Cycle at) names before after =
    let length_same : length other.offers ≡ length rows.offers =
    sym (length-map other.offers unnamed_offer) ∙ ap length before.offers ∙ length-map rows.offers unnamed_offer in
    reported_by_offers (length other.offers) (effect other (Cycle at)).offers
    ∙ (λ i. map line_reported (drop (length_same i) (after.offers i)))
    ∙ sym (reported_by_offers (length rows.offers) (effect rows (Cycle at)).offers)
answer-alike rows other event names before after = refl

-- ---- a step

module _ (limits : LimitNumbers) (rows other : Rows) (consistent : IsConsistent rows) (right : IsConsistent other) (alike : StandAlike rows other)
    (event : Event) (names : Names) (keeps : NobodyGoes event) (comes : ComesToTheSame limits rows other event names) where
  abbrev renamed_event : Event
  renamed_event = with_names names event

  pub record GoesOn : Type 0 where
    pub stand : StandAlike (rows_after limits rows event) (rows_after limits other renamed_event)
    pub reported : reported_to_roles (reply_to limits other renamed_event) ≡ reported_to_roles (reply_to limits rows event)

  step-alike : GoesOn
  step-alike = by (refusal_of limits rows event) (refusal_of limits other renamed_event) refl refl
    where
      by : (found too : Option Refusal) → refusal_of limits rows event ≡ found → refusal_of limits other renamed_event ≡ too → GoesOn
      by None None accepted welcome =
          let none : IsUnfiltered (effect rows event) =
          sym (ap (λ (r : Rows). in_force r.clock r.filters) (rows_after-accepted limits rows event accepted)) ∙ comes.unfiltered in
          let after = effect-alike limits rows other consistent right alike event names keeps accepted comes.finishes none in
          record {
            stand =
                subst (λ (p : Rows × Rows). StandAlike p.0 p.1)
                (λ i. (sym (rows_after-accepted limits rows event accepted) i, sym (rows_after-accepted limits other renamed_event welcome) i))
                (settled (effect rows event) (effect other renamed_event) after (effect rows event).filters (effect other renamed_event).filters
                (effect rows event).clock (effect other renamed_event).clock (rows.events + 1) (other.events + 1) after.unfiltered after.unfiltered_too);
            reported =
                ap reported_to_roles (reply_to-accepted limits other renamed_event welcome)
                ∙ answer-alike rows other event names alike after
                ∙ sym (ap reported_to_roles (reply_to-accepted limits rows event accepted));
          }
      by (Some refusal) (Some other_refusal) refused refused_too = record {
        stand =
            subst (λ (p : Rows × Rows). StandAlike p.0 p.1)
            (λ i. (sym (rows_after-refused limits rows event refusal refused) i, sym (rows_after-refused limits other renamed_event other_refusal refused_too) i))
            alike;
        reported =
            ap reported_to_roles (reply_to-refused limits other renamed_event other_refusal refused_too)
            ∙ sym (ap reported_to_roles (reply_to-refused limits rows event refusal refused));
      }
      by None (Some refusal) accepted refused =
          absurd (true≢false (sym (ap (is_some {T = Refusal}) refused) ∙ comes.refused ∙ ap (is_some {T = Refusal}) accepted))
      by (Some refusal) None refused accepted =
          absurd (true≢false (sym (ap (is_some {T = Refusal}) refused) ∙ sym comes.refused ∙ ap (is_some {T = Refusal}) accepted))

-- a framework registers only in the other run
comes-alike : (limits : LimitNumbers) (rows other : Rows) (framework : Text) (roles : List Path) → StandAlike rows other
    → AllByRecursion (λ role. has_part other role ≡ true) roles → StandAlike rows (rows_after limits other (AddFramework framework roles))
comes-alike limits rows other framework roles alike have = by (refusal_of limits other event) refl
  where
    event : Event
    event = AddFramework framework roles

    by : (found : Option Refusal) → refusal_of limits other event ≡ found → StandAlike rows (rows_after limits other event)
    by None accepted =
        let after = comes-other rows other alike framework roles have in
        subst (StandAlike rows) (sym (rows_after-accepted limits other event accepted))
        (settled rows (effect other event) after rows.filters (effect other event).filters rows.clock (effect other event).clock rows.events (other.events + 1)
        after.unfiltered after.unfiltered_too)
    by (Some refusal) refused = subst (StandAlike rows) (sym (rows_after-refused limits other event refusal refused)) alike

-- the reply to it makes no offer
comes_untold : (limits : LimitNumbers) (other : Rows) (framework : Text) (roles : List Path)
    → reported_to_roles (reply_to limits other (AddFramework framework roles)) ≡ []
comes_untold limits other framework roles = by (refusal_of limits other event) refl
  where
    event : Event
    event = AddFramework framework roles

    by : (found : Option Refusal) → refusal_of limits other event ≡ found → reported_to_roles (reply_to limits other event) ≡ []
    by None accepted = ap reported_to_roles (reply_to-accepted limits other event accepted)
    by (Some refusal) refused = ap reported_to_roles (reply_to-refused limits other event refusal refused)

-- ---- a run

pub more_frameworks_gain_nothing : MoreFrameworksGainNothing
more_frameworks_gain_nothing limits rows other [] consistent right given given_too keep alike come = (alike, refl)
more_frameworks_gain_nothing limits rows other (in_both event names ∷ steps) consistent right given given_too keep alike come =
    let too : Event = with_names names event in
    let step = step-alike limits rows other consistent right alike event names keep.0 come.0 in
    let later = more_frameworks_gain_nothing limits (rows_after limits rows event) (rows_after limits other too) steps
    (IsConsistent-after limits rows event consistent given.0) (IsConsistent-after limits other too right given_too.0)
    given.1 given_too.1 keep.1 step.stand come.1 in (
      later.0,
      map-append to_role (lines_reported (reply_to limits other too)) (flat_map lines_reported (replies_to limits (rows_after limits other too) (events_of_other steps)))
          ∙ (λ i. step.reported i ++ later.1 i)
          ∙ sym (map-append to_role (lines_reported (reply_to limits rows event))
          (flat_map lines_reported (replies_to limits (rows_after limits rows event) (events_of_one steps)))),
    )
more_frameworks_gain_nothing limits rows other (comes framework roles ∷ steps) consistent right given given_too keep alike come =
    let event : Event = AddFramework framework roles in
    let later = more_frameworks_gain_nothing limits rows (rows_after limits other event) steps
    consistent (IsConsistent-after limits other event right given_too.0) given given_too.1 keep
    (comes-alike limits rows other framework roles alike come.0) come.1 in (
      later.0,
      map-append to_role (lines_reported (reply_to limits other event)) (flat_map lines_reported (replies_to limits (rows_after limits other event) (events_of_other steps)))
          ∙ (λ i. comes_untold limits other framework roles i ++ later.1 i),
    )
