-- In an empty cluster, a cycle gives each top-level role its part.
use Rattle.std.specs.Prelude.{◌≡◌, ℕ, ◌+◌, ◌*◌, ◌<◌, ◌≤◌, Bool, true, not, List, [], ◌∷◌, ◌++◌, length, map, slice_get, sum_by, Option, Some, None, nat_lt}
use Rattle.std.specs.List.{AllByRecursion, list_all, list_any}
use Rattle.std.proofs.Common.{sym, ap, subst, ◌∙◌, inl, inr, cond, arith}
use Rattle.std.proofs.lemmas.Bool.{cases_Bool, and_parts, or_cases, not-true, lt-ltb}
use Rattle.std.proofs.lemmas.List.Sums.{sum_by-cons}
use Rattle.drf_role.specs.Path.{Path, begins_with}
use Rattle.drf_role.specs.Text.{Text, same_text}
use Rattle.drf_role.proofs.TextLaws.{cases_same}
use Rattle.drf_bundle.specs.Bundle.{IsBundle, is_unreserved, quantities_of}
use Rattle.drf_bundle.specs.Quantities.{amount_of}
use Rattle.drf_bundle.specs.Taken.{rest_of_all}
use Rattle.drf_bundle.specs.declared.quantities.Entry.{Entry}
use Rattle.drf_bundle.specs.declared.resource.Resource.{Resource}
use Rattle.drf_rows.specs.Client.{Client, path_of}
use Rattle.drf_rows.specs.Consistent.{IsConsistent, are_distinct}
use Rattle.drf_rows.specs.Cycle.{free_of, grant, is_allocatable, new_offer, with_offer, turn, turns, at_timestamp, cycle}
use Rattle.drf_rows.specs.Held.{active_clients, cluster_total, held_by}
use Rattle.drf_rows.specs.Held as rows_word
use Rattle.drf_rows.specs.Holdings.{held_where, holding_of_offer, holding_of_task, is_under, parts_on}
use Rattle.drf_rows.specs.Share.{Fraction}
use Rattle.drf_row_laws.proofs.ConsistentLaws.{bundles-consistent}
use Rattle.drf_row_laws.proofs.CycleLaws.{free_of-with_offer_other}
use Rattle.drf_row_laws.proofs.HoldingsLaws.{held_where-with_offer}
use Rattle.drf_bundle.proofs.ListLaws.{each_append, each_at, each_filter, each_from, filter_each}
use Rattle.drf_row_laws.proofs.MemberLaws.{amount_on, amount-cluster_total}
use Rattle.drf_laws.proofs.OfferedLaws.{each_served}
use Rattle.drf_rows.specs.declared.limits.TheConstants.{LATEST_TIMESTAMP}
use Rattle.drf_rows.specs.declared.rows.AgentRow.{AgentRow}
use Rattle.drf_rows.specs.declared.rows.Rows.{Rows}
use Rattle.drf_sorter.specs.Fractions.{dominant_of}
use Rattle.drf_sorter.proofs.theorems.OrderLaws.{greatest_above}
use Rattle.drf_promises.specs.Apart.{largest_agent, AreClientsOf, TakesPart}
use Rattle.drf_promises.specs.Sharing.{share_at, weight_at, FairShares, HoldAll}
use Rattle.drf_promises.specs.Cycles.{active_agents, GetsNothing, IsOpen}
use Rattle.drf_promises.specs.Siblings.{child, AtMost}
use Rattle.drf_promises.specs.Runs.{Has}
use Rattle.drf_promises.proofs.theorems.Apart.{cycle_apart, nothing_held_is_apart, stays_open}
use Rattle.drf_laws.proofs.theorems.Cycles.{IsMidway, midway-turn, total_of}
use Rattle.drf_promises.proofs.theorems.Cycles.{all_at, begin, end, turn_leaves_nothing}
use Rattle.drf_promises.proofs.theorems.First.{some_of}
use Rattle.drf_promises.proofs.theorems.Incentive.{mix_less, sharing_incentive}
use Rattle.drf_promises.proofs.theorems.Open.{OffersAll, all_or_nothing, grants_all}
use Rattle.drf_promises.proofs.theorems.Shares.{greater_first, greater_second, most_trans}

-- ---- a client that holds everything of a scalar has the share 1

abbrev whole : Fraction
whole = record { part = 1; whole = 1 }

all_is_one : (held : Text → ℕ) (label : Text) (es : List Entry) → 0 < amount_of es label → amount_of es label ≤ held label → AtMost whole (dominant_of held es)
all_is_one held label [] some enough = absurd (omega (arith, some))
all_is_one held label (e ∷ es) some enough = elim (cases_same e.label label) [
  | inl same ↦
      let there : 0 < e.amount = rw same.0 at some in
      let most : e.amount ≤ held label = rw same.0 at enough in
      let f : Fraction = record { part = held e.label; whole = e.amount } in
      let one : AtMost whole f = omega (arith, most, ap held same.1) in
      rw (lt-ltb 0 e.amount there) (most_trans whole f _ there one (greater_first f (dominant_of held es)))
  | inr other ↦
      let later = all_is_one held label es (rw other.0 at some) (rw other.0 at enough) in
      elim (cases_Bool (nat_lt 0 e.amount)) [
        | inl here ↦
            rw here
            (most_trans whole (dominant_of held es) _ (greatest_above held es) later
            (greater_second (record { part = held e.label; whole = e.amount }) (dominant_of held es)))
        | inr none ↦ rw none later
      ]
]

-- ---- one offer

-- one of some sums grows by what is offered
sum_rises : (own : Text → Bool) (old new : Text → ℕ) (u : ℕ) → ((name : Text) → new name ≡ old name + cond (own name) u 0) → (names : List Text)
    → (sum_by old names ≤ sum_by new names) × (list_any own names ≡ true → sum_by old names + u ≤ sum_by new names)
sum_rises own old new u grows [] = (omega arith, λ any. cc)
sum_rises own old new u grows (name ∷ names) =
    let before = sum_by-cons old name names in
    let after = sum_by-cons new name names in
    let rest = sum_rises own old new u grows names in (
      omega (arith, before, after, grows name, rest.0),
      λ any. elim (or_cases (own name) (list_any own names) any) [
        | inl here ↦ omega (arith, before, after, grows name, ap {B = ℕ} (λ b. cond b u 0) here, rest.0)
        | inr later ↦ omega (arith, before, after, grows name, rest.1 later)
      ],
    )

-- ---- a turn

-- an agent that is large enough to be offered is offered
handed_out : (rows : Rows) (agent : AgentRow) (node : Path) (is_open : IsOpen rows) (consistent : IsConsistent rows) (total : IsBundle agent.total)
    (none : is_unreserved agent.total ≡ true) → is_allocatable (free_of rows agent) ≡ true → TakesPart rows node
    → OffersAll rows is_open agent total none (bundles-consistent rows consistent)
handed_out rows agent node is_open consistent total none worth takes =
    let each = bundles-consistent rows consistent in
    elim (all_or_nothing rows is_open agent total none each) [
      | inl nothing ↦
          let c = some_of (λ c. begins_with (path_of c) node) (GetsNothing (turn rows agent) agent) (active_clients rows) takes
          (turn_leaves_nothing rows agent consistent total) in
          let gets : grant rows agent c.0 ≡ None = ap (λ (r : Rows). grant r agent c.0) (sym nothing) ∙ c.2 in
          let some : ◌≡◌ {A = Option (List Resource)} (Some (free_of rows agent)) None = sym (grants_all rows is_open agent total none each c.0 worth) ∙ gets in
          cc
      | inr all ↦ all
    ]

module _ (names : List Text) (label : Text) where
  abbrev at_top : Rows → ℕ
  at_top rows = held_by rows [] label

  abbrev held_in : Rows → ℕ
  held_in rows = sum_by (λ name. held_by rows (child [] name) label) names

  abbrev Fresh : Rows → AgentRow → Type 0
  Fresh rows a = (free_of rows a ≡ a.total) × (is_allocatable a.total ≡ true)

  abbrev IsOne : Client → Type 0
  IsOne c = list_any (λ name. begins_with (path_of c) (child [] name)) names ≡ true

  offer_adds : (rows : Rows) (agent : AgentRow) (c : Client) → free_of rows agent ≡ agent.total → IsOne c
      → let after : Rows = with_offer rows (new_offer rows agent c (free_of rows agent)) in
      (at_top after ≡ at_top rows + amount_on label agent) × (held_in rows + amount_on label agent ≤ held_in after)
  offer_adds rows agent c all one =
      let o = new_offer rows agent c (free_of rows agent) in
      let u : ℕ = amount_on label agent in
      let bundle : amount_of (quantities_of (free_of rows agent)) label ≡ u = ap (λ (b : List Resource). amount_of (quantities_of b) label) all in (
        held_where-with_offer (is_under []) rows o label ∙ ap (λ n. at_top rows + n) bundle,
        (sum_rises (λ name. begins_with (path_of c) (child [] name)) (λ name. held_by rows (child [] name) label)
            (λ name. held_by (with_offer rows o) (child [] name) label) u
            (λ name. held_where-with_offer (is_under (child [] name)) rows o label
            ∙ ap (λ n. held_by rows (child [] name) label + cond (begins_with (path_of c) (child [] name)) n 0) bundle) names).1 one,
      )

  offered_whole : (P : List Resource → Type 0) (rows : Rows) (agent : AgentRow) (c : Client) → free_of rows agent ≡ agent.total → P agent.total
      → AllByRecursion (λ o. P o.bundle) rows.offers
      → AllByRecursion (λ o. P o.bundle) (with_offer rows (new_offer rows agent c (free_of rows agent))).offers
  unfolding with_offer
  offered_whole P rows agent c all whole each =
      each_append (λ o. P o.bundle) rows.offers (new_offer rows agent c (free_of rows agent) ∷ []) each (subst P (sym all) whole, tt)

  -- the agents of later turns are still untouched
  fresh_still : (rows : Rows) (agent : AgentRow) (c : Client) (agents : List AgentRow)
      → list_all (λ t. not (same_text agent.name t)) (map (λ a. a.name) agents) ≡ true → AllByRecursion (Fresh rows) agents
      → AllByRecursion (Fresh (with_offer rows (new_offer rows agent c (free_of rows agent)))) agents
  fresh_still rows agent c [] apart fresh = tt
  fresh_still rows agent c (other ∷ agents) apart fresh =
      let parts = and_parts (not (same_text agent.name other.name)) _ apart in
      let o = new_offer rows agent c (free_of rows agent) in (
        (free_of-with_offer_other rows o other (not-true (same_text agent.name other.name) parts.0) ∙ fresh.0.0, fresh.0.1),
        fresh_still rows agent c agents parts.1 fresh.1,
      )

  module _ (start : Rows) (node : Path) (clients : AreClientsOf start [] names) (takes : TakesPart start node) where
    turns_add : (rows : Rows) (agents : List AgentRow) → AllByRecursion (Has start.agents) agents → IsMidway start rows → IsOpen rows
        → are_distinct (map (λ a. a.name) agents) ≡ true → AllByRecursion (Fresh rows) agents
        → (at_top rows + sum_by (amount_on label) agents ≤ at_top (turns rows agents))
        × (at_top rows ≤ held_in rows → at_top (turns rows agents) ≤ held_in (turns rows agents))
        × ((P : List Resource → Type 0) → AllByRecursion (λ a. P a.total) agents → AllByRecursion (λ o. P o.bundle) rows.offers
        → AllByRecursion (λ o. P o.bundle) (turns rows agents).offers)
    turns_add rows [] at mid is_open apart fresh = (omega arith, λ few. few, λ P totals all. all)
    turns_add rows (agent ∷ agents) at mid is_open apart fresh =
        let here : Has rows.agents agent = (at.0.0, ap (λ (as' : List AgentRow). slice_get as' at.0.0) mid.agents ∙ at.0.1) in
        let none = each_at (λ a. is_unreserved a.total ≡ true) rows.agents here.0 agent is_open.unreserved here.1 in
        let total = total_of start rows agent at.0 mid in
        let own : TakesPart rows node = subst (λ (cs : List Client). list_any (λ c. begins_with (path_of c) node) cs ≡ true) (sym mid.active) takes in
        let all = handed_out rows agent node is_open mid.consistent total none (ap is_allocatable fresh.0.0 ∙ fresh.0.1) own in
        let c : Client = all.first in
        let next : Rows = turn rows agent in
        let one : IsOne c =
        (subst (AllByRecursion IsOne) all.order (each_served IsOne (rows_word.standing_of rows) _ (active_clients rows) (subst (AllByRecursion IsOne) (sym mid.active) clients))).0 in
        let parts = and_parts (list_all (λ t. not (same_text agent.name t)) (map (λ a. a.name) agents)) _ apart in
        let adds = offer_adds rows agent c fresh.0.0 one in
        let still = subst (λ (r : Rows). AllByRecursion (Fresh r) agents) (sym all.offered) (fresh_still rows agent c agents parts.0 fresh.1) in
        let later = turns_add next agents at.1 (midway-turn start rows agent at.0 mid) (stays_open rows agent here mid.consistent is_open) parts.1 still in
        let top : at_top next ≡ at_top rows + amount_on label agent = ap at_top all.offered ∙ adds.0 in
        let in_all : held_in rows + amount_on label agent ≤ held_in next = omega (arith, adds.1, ap held_in all.offered) in (
          omega (arith, later.0, top, sum_by-cons (amount_on label) agent agents),
          λ few. later.1 (omega (arith, few, top, in_all)),
          λ P totals each. later.2 P totals.1
              (subst (λ (r : Rows). AllByRecursion (λ o. P o.bundle) r.offers) (sym all.offered)
              (offered_whole P rows agent c fresh.0.0 totals.0 each)),
        )

-- ---- the cycle

module _ (rows : Rows) (at : ℕ) (one : Text) (others : List Text) (consistent : IsConsistent rows) (early : at ≤ LATEST_TIMESTAMP) (is_open : IsOpen (at_timestamp rows at))
    (offers : rows.offers ≡ []) (tasks : rows.tasks ≡ []) (full : AllByRecursion (λ a. (a.active ≡ true) × (is_allocatable a.total ≡ true)) rows.agents)
    (clients : AreClientsOf rows [] (one ∷ others)) (takes : TakesPart rows (child [] one)) where
  abbrev after : Rows
  after = cycle rows at

  abbrev start : Rows
  start = at_timestamp rows at

  pub gone : IsMidway start after
  gone = end rows at consistent early

  pub everyone : active_agents rows ≡ rows.agents
  everyone = filter_each (λ a. a.active) rows.agents
      (each_from (λ a. (a.active ≡ true) × (is_allocatable a.total ≡ true)) (λ a. a.active ≡ true) rows.agents (λ a both. both.0) full)

  fresh : (label : Text) → AllByRecursion (Fresh (one ∷ others) label start) (active_agents rows)
  unfolding free_of
  fresh label = each_filter (Fresh (one ∷ others) label start) (λ a. a.active) rows.agents
      (each_from (λ a. (a.active ≡ true) × (is_allocatable a.total ≡ true)) (Fresh (one ∷ others) label start) rows.agents
      (λ a both. ((λ i. rest_of_all a.total (parts_on a.name (map holding_of_offer (offers i) ++ map holding_of_task (tasks i)))), both.1)) full)

  pub adds : (l : Text) → (held_by start [] l + sum_by (amount_on l) (active_agents rows) ≤ held_by after [] l)
      × (held_by start [] l ≤ held_in (one ∷ others) l start → held_by after [] l ≤ held_in (one ∷ others) l after)
      × ((P : List Resource → Type 0) → AllByRecursion (λ a. P a.total) (active_agents rows) → AllByRecursion (λ o. P o.bundle) start.offers
      → AllByRecursion (λ o. P o.bundle) after.offers)
  unfolding cycle
  adds l =
      turns_add (one ∷ others) l start (child [] one) clients takes start (active_agents rows) (all_at rows at consistent early) (begin rows at consistent early)
      is_open
      (ap (λ (as' : List AgentRow). are_distinct (map (λ a. a.name) as')) everyone ∙ consistent.agents.names) (fresh l)

  all_held : HoldAll after [] one others
  all_held l =
      let none : held_by start [] l ≡ 0 = λ i. held_where (is_under []) (map holding_of_offer (offers i) ++ map holding_of_task (tasks i)) l in
      omega (arith, (adds l).1 (omega (arith, none)), sum_by-cons (λ name. held_by after (child [] name) l) one others)

  root : (label : Text) → 0 < amount_of (cluster_total rows.agents) label → AtMost whole (share_at after [])
  unfolding rows_word.standing_of
  root label some =
      let total : amount_of (cluster_total after.agents) label ≡ sum_by (amount_on label) (active_agents rows) =
      ap (λ (as' : List AgentRow). amount_of (cluster_total as') label) gone.agents ∙ amount-cluster_total rows.agents label consistent.agents.each
      ∙ ap (sum_by (amount_on label)) (sym everyone) in
      all_is_one (held_by after []) label (cluster_total after.agents)
      (omega (arith, some, ap (λ (as' : List AgentRow). amount_of (cluster_total as') label) gone.agents)) (omega (arith, total, (adds label).0))

pub fair_shares : FairShares
unfolding rows_word.standing_of
fair_shares rows at one others label consistent early is_open offers tasks full some clients takes =
    let after : Rows = cycle rows at in
    let w : ℕ = weight_at after (child [] one) in
    let mid = gone rows at one others consistent early is_open offers tasks full clients takes in
    mix_less w (share_at after (child [] one)) (largest_agent after) whole (share_at after []) (w + sum_by (λ name. weight_at after (child [] name)) others)
    (w * length others) (greatest_above (held_by after []) (cluster_total after.agents))
    (root rows at one others consistent early is_open offers tasks full clients takes label some)
    (sharing_incentive after [] one others mid.consistent (cycle_apart rows at consistent early is_open (nothing_held_is_apart rows offers tasks)).1
    (subst (λ (cs : List Client). list_any (λ c. begins_with (path_of c) (child [] one)) cs ≡ true) (sym mid.active) takes)
    (all_held rows at one others consistent early is_open offers tasks full clients takes))
