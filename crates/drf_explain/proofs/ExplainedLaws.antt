-- Lemmas about `specs/ExplainedLaws.antt`.
use Rattle.std.specs.Prelude.{◌≡◌, ℕ, ◌≤◌, suc, max, Bool, true, false, not, ◌&&◌, List, [], ◌∷◌, ◌++◌, length, map, filter, drop, Option, Some, None, is_some, if◌then◌else◌, nat_lt}
use Rattle.std.specs.List.{flat_map, list_any, reduce}
use Rattle.std.specs.Option.{option_map_or}
use Rattle.std.proofs.Common.{refl, sym, ap, subst, ◌∙◌, inl, inr, cond, arith, append_assoc, append-nil}
use Rattle.std.proofs.Math.Seq.{drop-append_seam}
use Rattle.std.proofs.lemmas.Bool.{cases_Bool, and_parts, ltb-true, lt-ltb}
use Rattle.std.proofs.lemmas.List.{map-append}
use Rattle.drf_role.specs.Text.{Text}
use Rattle.drf_role.specs.Path.{Path}
use Rattle.drf_bundle.specs.Bundle.{covers, part_for}
use Rattle.drf_bundle.specs.declared.resource.Resource.{Resource}
use Rattle.drf_rows.specs.Client.{Client, path_of}
use Rattle.drf_rows.specs.Cycle.{free_of, is_allocatable, grant, new_offer, with_offer, tried, all_tried, turn_order, turn, turns, at_timestamp, cycle}
use Rattle.drf_row_laws.proofs.CycleLaws.{all_tried_none}
use Rattle.drf_rows.specs.Filters.{is_in_force, in_force, is_of_client, is_on_agent, holds_back, is_held_back}
use Rattle.drf_rows.specs.Held.{standing_of}
use Rattle.drf_row_laws.proofs.LiveLaws.{kept-turns}
use Rattle.drf_rows.specs.Offers.{is_empty}
use Rattle.drf_rows.specs.Quota.{consumption, entitlement}
use Rattle.drf_rows.specs.declared.rows.AgentRow.{AgentRow}
use Rattle.drf_rows.specs.declared.rows.ClientRow.{ClientRow}
use Rattle.drf_rows.specs.declared.rows.FilterRow.{FilterRow}
use Rattle.drf_rows.specs.declared.rows.FrameworkRow.{FrameworkRow}
use Rattle.drf_rows.specs.declared.rows.OfferRow.{OfferRow}
use Rattle.drf_rows.specs.declared.rows.Rows.{Rows}
use Rattle.drf_explain.specs.Explained.{held_until, limiting_role, shortage, outcome, reported_of_all, reported_of_active, reported_of_agent, after_agent, reported_of_agents, reported_if_suppressed, suppressed_in, suppressed_of, explained}
use Rattle.drf_explain.specs.declared.finding.Finding.{Finding}
use Rattle.drf_explain.specs.declared.finding.Finding.TheVariants.{Inactive, NothingFree, Tried, Left}
use Rattle.drf_explain.specs.declared.finding.Outcome.{Outcome}
use Rattle.drf_explain.specs.declared.finding.Outcome.TheVariants.{Grant, HeldBack, OverLimit, BelowThreshold, NothingLeft, ReservedForOthers}
use Rattle.drf_explain.specs.ExplainedLaws.{grants_of, grants_in, offered, GrantsAreOffers, LiveRowsAreExplained}

-- ---- filters that cover a bundle

-- some filter covers a bundle exactly if the filters that do have a latest end
any_found : (test : FilterRow → Bool) (fs : List FilterRow) → list_any test fs ≡ is_some (reduce max (map (λ f. f.until) (filter test fs)))
any_found test [] = refl
any_found test (f ∷ fs) = elim (cases_Bool (test f)) [
  | inl here ↦ rw here refl
  | inr past ↦ rw past (any_found test fs)
]

pub held_back-until : (filters : List FilterRow) (clock : ℕ) (client : Client) (agent : Text) (bundle : List Resource)
    → is_held_back filters clock client agent bundle ≡ is_some (held_until filters clock client agent bundle)
held_back-until filters clock client agent bundle = any_found (holds_back clock client agent bundle) filters

-- filtering first by a weaker test changes nothing
pub filter_weaker : {A : Type 0} (strong weak : A → Bool) → ((x : A) → strong x ≡ true → weak x ≡ true) → (xs : List A)
    → filter strong (filter weak xs) ≡ filter strong xs
filter_weaker strong weak implies [] = refl
filter_weaker strong weak implies (x ∷ xs) = elim (cases_Bool (strong x)) [
  | inl here ↦ rw (here, implies x here) (rw here (ap (λ ys. x ∷ ys) (filter_weaker strong weak implies xs)))
  | inr past ↦ elim (cases_Bool (weak x)) [
    | inl kept ↦ rw (kept, past) (filter_weaker strong weak implies xs)
    | inr gone ↦ rw (gone, past) (filter_weaker strong weak implies xs)
  ]
]

-- ---- the grants of an explanation

flat_map-append : {A B : Type 0} (f : A → List B) (xs ys : List A) → flat_map f (xs ++ ys) ≡ flat_map f xs ++ flat_map f ys
flat_map-append f [] ys = refl
flat_map-append f (x ∷ xs) ys = ap (λ zs. f x ++ zs) (flat_map-append f xs ys) ∙ sym (append_assoc (f x) (flat_map f xs) (flat_map f ys))

-- the grants among the findings are the offers that were made between two states
record Makes (before after : Rows) (findings : List Finding) : Type 0 where
  made : List OfferRow
  offers : after.offers ≡ before.offers ++ made
  reported : flat_map grants_in findings ≡ map offered made

makes-nothing : (rows : Rows) (findings : List Finding) → flat_map grants_in findings ≡ [] → Makes rows rows findings
makes-nothing rows findings none = record { made = []; offers = sym (append-nil rows.offers); reported = none }

makes-both : (before mid after : Rows) (first second : List Finding) → Makes before mid first → Makes mid after second
    → Makes before after (first ++ second)
makes-both before mid after first second a b = record {
  made = a.made ++ b.made;
  offers = b.offers ∙ ap (λ (os : List OfferRow). os ++ b.made) a.offers ∙ append_assoc before.offers a.made b.made;
  reported = flat_map-append grants_in first second ∙ (λ i. a.reported i ++ b.reported i) ∙ sym (map-append offered a.made b.made);
}

-- a shortage is not a grant
no_grant : (agent : Text) (client : Path) (worth gone none : Bool) (role : Path)
    → flat_map grants_in (Tried agent client (if worth then OverLimit role else if gone then NothingLeft else if none then ReservedForOthers else BelowThreshold) ∷ []) ≡ []
no_grant agent client true gone none role = refl
no_grant agent client false true none role = refl
no_grant agent client false false true role = refl
no_grant agent client false false false role = refl

-- a client is tried
module _ (rows : Rows) (agent : AgentRow) (client : Client) where
  abbrev offer_of : List Resource → OfferRow
  offer_of bundle = new_offer rows agent client bundle

  abbrev after : Option (List Resource) → Rows
  after granted = option_map_or (λ bundle. with_offer rows (new_offer rows agent client bundle)) granted rows

  makes-by : (bundle : List Resource) (worth held : Bool) (until : Option ℕ) (short : Outcome) → held ≡ is_some until
      → flat_map grants_in (Tried agent.name (path_of client) short ∷ []) ≡ []
      → Makes rows (after (if worth && not held then Some bundle else None))
      (Tried agent.name (path_of client) (if worth then option_map_or HeldBack until (Grant bundle) else short) ∷ [])
  unfolding with_offer
  makes-by bundle false held until short same none = makes-nothing rows _ none
  makes-by bundle true held None short same none =
      rw same (record { made = offer_of bundle ∷ []; offers = refl; reported = refl })
  makes-by bundle true held (Some until) short same none =
      rw same (makes-nothing rows (Tried agent.name (path_of client) (HeldBack until) ∷ []) refl)

  makes-tried : Makes rows (tried rows agent client) (Tried agent.name (path_of client) (outcome rows agent client) ∷ [])
  makes-tried =
      let free = free_of rows agent in
      let bundle = entitlement rows free client in
      let part = part_for client.role free in
      makes-by bundle (is_allocatable bundle) (is_held_back rows.filters rows.clock client agent.name bundle)
      (held_until rows.filters rows.clock client agent.name bundle) (shortage rows.limits (consumption rows) client.role free part)
      (held_back-until rows.filters rows.clock client agent.name bundle)
      (no_grant agent.name (path_of client) (is_allocatable part) (is_empty free) (is_empty part) (limiting_role rows.limits (consumption rows) client.role part))

  none-by : (bundle : List Resource) (worth held : Bool) (until : Option ℕ) (short : Outcome) → held ≡ is_some until
      → grants_of agent.name (path_of client) (if worth then option_map_or HeldBack until (Grant bundle) else short) ≡ []
      → after (if worth && not held then Some bundle else None) ≡ rows
  none-by bundle false held until short same none = refl
  none-by bundle true held None short same none = absurd cc
  none-by bundle true held (Some until) short same none = rw same refl

  -- if no grant is reported, nothing is granted
  pub tried-none : grants_in (Tried agent.name (path_of client) (outcome rows agent client)) ≡ [] → tried rows agent client ≡ rows
  tried-none =
      let free = free_of rows agent in
      let bundle = entitlement rows free client in
      none-by bundle (is_allocatable bundle) (is_held_back rows.filters rows.clock client agent.name bundle)
      (held_until rows.filters rows.clock client agent.name bundle) (shortage rows.limits (consumption rows) client.role free (part_for client.role free))
      (held_back-until rows.filters rows.clock client agent.name bundle)

-- clients are tried one after another
makes-all : (rows : Rows) (agent : AgentRow) (clients : List Client) → Makes rows (all_tried rows agent clients) (reported_of_all rows agent clients)
makes-all rows agent [] = makes-nothing rows [] refl
makes-all rows agent (client ∷ clients) = elim (cases_Bool (is_allocatable (free_of rows agent))) [
  | inl enough ↦ rw enough
      (makes-both rows (tried rows agent client) _ (Tried agent.name (path_of client) (outcome rows agent client) ∷ []) _
      (makes-tried rows agent client) (makes-all (tried rows agent client) agent clients))
  | inr little ↦ rw little
      (subst (λ (r : Rows). Makes rows r (Left agent.name (free_of rows agent) (suc (length clients)) ∷ []))
      (sym (all_tried_none rows agent (client ∷ clients) little)) (makes-nothing rows _ refl))
]

-- if nothing is free, that is too small for an offer
pub nothing_free : (free : List Resource) → is_empty free ≡ true → is_allocatable free ≡ false
nothing_free [] none = refl
nothing_free (r ∷ rs) none = cc

makes-active : (rows : Rows) (agent : AgentRow) → Makes rows (turn rows agent) (reported_of_active rows agent)
unfolding turn
makes-active rows agent = elim (cases_Bool (is_empty (free_of rows agent))) [
  | inl none ↦ rw none
      (subst (λ (r : Rows). Makes rows r (NothingFree agent.name ∷ []))
      (sym (all_tried_none rows agent (turn_order rows) (nothing_free (free_of rows agent) none))) (makes-nothing rows _ refl))
  | inr some ↦ rw some (makes-all rows agent (turn_order rows))
]

makes-agents : (rows : Rows) (agents : List AgentRow) → Makes rows (turns rows (filter (λ a. a.active) agents)) (reported_of_agents rows agents)
makes-agents rows [] = makes-nothing rows [] refl
makes-agents rows (agent ∷ agents) = by agent.active (makes-agents (turn rows agent) agents) (makes-agents rows agents)
  where
    by : (active : Bool) → Makes (turn rows agent) (turns (turn rows agent) (filter (λ a. a.active) agents)) (reported_of_agents (turn rows agent) agents)
        → Makes rows (turns rows (filter (λ a. a.active) agents)) (reported_of_agents rows agents)
        → Makes rows (turns rows (cond active (agent ∷ filter (λ a. a.active) agents) (filter (λ a. a.active) agents)))
        (cond active (reported_of_active rows agent) (Inactive agent.name ∷ []) ++ reported_of_agents (cond active (turn rows agent) rows) agents)
    by true later skipped = makes-both rows (turn rows agent) _ (reported_of_active rows agent) _ (makes-active rows agent) later
    by false later skipped = makes-both rows rows _ (Inactive agent.name ∷ []) _ (makes-nothing rows _ refl) skipped

-- a suppressed client is granted nothing
no_suppressed : (f : FrameworkRow) (cs : List ClientRow) → flat_map grants_in (flat_map (reported_if_suppressed f) cs) ≡ []
no_suppressed f [] = refl
no_suppressed f (c ∷ cs) = elim (cases_Bool c.suppressed) [
  | inl here ↦ rw here (no_suppressed f cs)
  | inr past ↦ rw past (no_suppressed f cs)
]

none_suppressed : (fs : List FrameworkRow) → flat_map grants_in (flat_map suppressed_in fs) ≡ []
none_suppressed [] = refl
none_suppressed (f ∷ fs) =
    flat_map-append grants_in (suppressed_in f) (flat_map suppressed_in fs)
    ∙ (λ i. no_suppressed f f.clients i ++ none_suppressed fs i)

pub grants_are_offers : GrantsAreOffers
unfolding explained cycle
grants_are_offers rows at =
    let start : Rows = at_timestamp rows at in
    let makes = makes-agents start rows.agents in
    flat_map-append grants_in (suppressed_of rows) (reported_of_agents start rows.agents)
    ∙ ap (λ gs. gs ++ flat_map grants_in (reported_of_agents start rows.agents)) (none_suppressed rows.frameworks)
    ∙ makes.reported
    ∙ ap (map offered) (sym (ap (drop (length rows.offers)) makes.offers ∙ drop-append_seam rows.offers makes.made))

-- ---- expired filters

-- the rows with other filters
abbrev pub with_filters : Rows → List FilterRow → Rows
with_filters rows filters = record rows { filters = filters }

-- the same bundles are covered by the filters of both lists
abbrev pub HoldTheSame : List FilterRow → List FilterRow → ℕ → Type 0
HoldTheSame fs gs clock =
    (client : Client) (agent : Text) (bundle : List Resource) → filter (holds_back clock client agent bundle) fs ≡ filter (holds_back clock client agent bundle) gs

module _ (rows : Rows) (fs : List FilterRow) (same : HoldTheSame fs rows.filters rows.clock) (agent : AgentRow) (client : Client) where
  pub outcome-filters : outcome (with_filters rows fs) agent client ≡ outcome rows agent client
  unfolding free_of
  outcome-filters =
      let free = free_of rows agent in
      let bundle = entitlement rows free client in
      λ i. if is_allocatable bundle then option_map_or HeldBack (reduce max (map (λ (f : FilterRow). f.until) (same client agent.name bundle i))) (Grant bundle)
      else shortage rows.limits (consumption rows) client.role free (part_for client.role free)

  grant-filters : grant (with_filters rows fs) agent client ≡ grant rows agent client
  unfolding free_of
  grant-filters =
      let bundle = entitlement rows (free_of rows agent) client in
      let held : is_held_back fs rows.clock client agent.name bundle ≡ is_held_back rows.filters rows.clock client agent.name bundle =
      held_back-until fs rows.clock client agent.name bundle
      ∙ (λ i. is_some (reduce max (map (λ (f : FilterRow). f.until) (same client agent.name bundle i))))
      ∙ sym (held_back-until rows.filters rows.clock client agent.name bundle) in
      λ i. if is_allocatable bundle && not (held i) then Some bundle else None

  offer-filters : (granted : Option (List Resource))
      → option_map_or (λ bundle. with_offer (with_filters rows fs) (new_offer rows agent client bundle)) granted (with_filters rows fs)
      ≡ with_filters (option_map_or (λ bundle. with_offer rows (new_offer rows agent client bundle)) granted rows) fs
  unfolding with_offer
  offer-filters None = refl
  offer-filters (Some bundle) = refl

  pub tried-filters : tried (with_filters rows fs) agent client ≡ with_filters (tried rows agent client) fs
  tried-filters =
      ap (λ (granted : Option (List Resource)). option_map_or (λ bundle. with_offer (with_filters rows fs) (new_offer rows agent client bundle)) granted (with_filters rows fs)) grant-filters
      ∙ offer-filters (grant rows agent client)

-- trying a client does not change filters and clock
pub kept-tried : (rows : Rows) (agent : AgentRow) (client : Client) (granted : Option (List Resource))
    → let after : Rows = option_map_or (λ bundle. with_offer rows (new_offer rows agent client bundle)) granted rows in
    (after.filters ≡ rows.filters) × (after.clock ≡ rows.clock)
unfolding with_offer
kept-tried rows agent client None = (refl, refl)
kept-tried rows agent client (Some bundle) = (refl, refl)

pub still_the_same : (rows after : Rows) (fs : List FilterRow) → (after.filters ≡ rows.filters) × (after.clock ≡ rows.clock)
    → HoldTheSame fs rows.filters rows.clock → HoldTheSame fs after.filters after.clock
still_the_same rows after fs kept same = subst (λ (q : List FilterRow × ℕ). HoldTheSame fs q.0 q.1) (λ i. (sym kept.0 i, sym kept.1 i)) same

all_tried-filters : (rows : Rows) (fs : List FilterRow) (agent : AgentRow) (clients : List Client) → HoldTheSame fs rows.filters rows.clock
    → all_tried (with_filters rows fs) agent clients ≡ with_filters (all_tried rows agent clients) fs
all_tried-filters rows fs agent [] same = refl
all_tried-filters rows fs agent (client ∷ clients) same =
    let after : Rows = tried rows agent client in
    ap (λ (r : Rows). all_tried r agent clients) (tried-filters rows fs same agent client)
    ∙ all_tried-filters after fs agent clients (still_the_same rows after fs (kept-tried rows agent client (grant rows agent client)) same)

reported_of_all-filters : (rows : Rows) (fs : List FilterRow) (agent : AgentRow) (clients : List Client) → HoldTheSame fs rows.filters rows.clock
    → reported_of_all (with_filters rows fs) agent clients ≡ reported_of_all rows agent clients
unfolding free_of
reported_of_all-filters rows fs agent [] same = refl
reported_of_all-filters rows fs agent (client ∷ clients) same =
    let after : Rows = tried rows agent client in
    let first = outcome-filters rows fs same agent client in
    let others : reported_of_all (tried (with_filters rows fs) agent client) agent clients ≡ reported_of_all after agent clients =
    ap (λ (r : Rows). reported_of_all r agent clients) (tried-filters rows fs same agent client)
    ∙ reported_of_all-filters after fs agent clients (still_the_same rows after fs (kept-tried rows agent client (grant rows agent client)) same) in
    λ i. if is_allocatable (free_of rows agent) then Tried agent.name (path_of client) (first i) ∷ others i
    else Left agent.name (free_of rows agent) (suc (length clients)) ∷ []

reported_of_agent-filters : (rows : Rows) (fs : List FilterRow) (agent : AgentRow) → HoldTheSame fs rows.filters rows.clock
    → reported_of_agent (with_filters rows fs) agent ≡ reported_of_agent rows agent
unfolding free_of standing_of
reported_of_agent-filters rows fs agent same =
    let all = reported_of_all-filters rows fs agent (turn_order rows) same in
    λ i. if agent.active then (if is_empty (free_of rows agent) then NothingFree agent.name ∷ [] else all i) else Inactive agent.name ∷ []

pub after-filters : (rows : Rows) (fs : List FilterRow) (agent : AgentRow) (active : Bool) → HoldTheSame fs rows.filters rows.clock
    → cond active (turn (with_filters rows fs) agent) (with_filters rows fs) ≡ with_filters (cond active (turn rows agent) rows) fs
unfolding turn standing_of
after-filters rows fs agent true same = all_tried-filters rows fs agent (turn_order rows) same
after-filters rows fs agent false same = refl

pub kept-agent : (rows : Rows) (agent : AgentRow) (active : Bool)
    → let after : Rows = cond active (turn rows agent) rows in (after.filters ≡ rows.filters) × (after.clock ≡ rows.clock)
kept-agent rows agent true = kept-turns rows (agent ∷ [])
kept-agent rows agent false = (refl, refl)

reported_of_agents-filters : (rows : Rows) (fs : List FilterRow) (agents : List AgentRow) → HoldTheSame fs rows.filters rows.clock
    → reported_of_agents (with_filters rows fs) agents ≡ reported_of_agents rows agents
reported_of_agents-filters rows fs [] same = refl
reported_of_agents-filters rows fs (agent ∷ agents) same =
    let after : Rows = after_agent rows agent in
    let others : reported_of_agents (after_agent (with_filters rows fs) agent) agents ≡ reported_of_agents after agents =
    ap (λ (r : Rows). reported_of_agents r agents) (after-filters rows fs agent agent.active same)
    ∙ reported_of_agents-filters after fs agents (still_the_same rows after fs (kept-agent rows agent agent.active) same) in
    λ i. reported_of_agent-filters rows fs agent same i ++ others i

-- a filter that covers a bundle at a timestamp is in force at an earlier one
pub in_force_before : (now later : ℕ) (client : Client) (agent : Text) (bundle : List Resource) → now ≤ later → (f : FilterRow)
    → holds_back later client agent bundle f ≡ true → is_in_force now f ≡ true
in_force_before now later client agent bundle le f holds =
    let still : nat_lt later f.until ≡ true = (and_parts _ (is_of_client client f && (is_on_agent agent f && covers f.bundle bundle)) holds).0 in
    lt-ltb now f.until (omega (arith, le, ltb-true later f.until still))

pub live_rows_are_explained : LiveRowsAreExplained
unfolding explained
live_rows_are_explained rows at =
    let late : rows.clock ≤ max rows.clock at = omega arith in
    ap (λ fs. suppressed_of rows ++ fs)
    (reported_of_agents-filters (at_timestamp rows at) (in_force rows.clock rows.filters) rows.agents
    (λ client agent bundle. filter_weaker (holds_back (max rows.clock at) client agent bundle) (is_in_force rows.clock)
    (in_force_before rows.clock (max rows.clock at) client agent bundle late) rows.filters))
