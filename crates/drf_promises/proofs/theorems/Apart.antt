-- Siblings are at most one agent apart: each turn gives everything that is free to a client that is ahead of its
-- siblings.
use Rattle.std.specs.Prelude.{◌≡◌, ℕ, ◌+◌, ◌*◌, ◌≤◌, Bool, true, false, List, [], ◌∷◌, ◌++◌, map, slice_get, if◌then◌else◌, nat_lt}
use Rattle.std.specs.List.{AllByRecursion, list_any}
use Rattle.std.proofs.Common.{refl, sym, ap, subst, ◌∙◌, inl, inr, cond, arith}
use Rattle.std.proofs.lemmas.Bool.{cases_Bool}
use Rattle.drf_role.specs.Path.{Path, begins_with}
use Rattle.drf_role.specs.Text.{Text, same_text}
use Rattle.drf_role.specs.TextLaws.{same_from_test}
use Rattle.drf_bundle.specs.Bundle.{IsBundle, is_unreserved, quantities_of}
use Rattle.drf_bundle.specs.Quantities.{amount_of}
use Rattle.drf_bundle.specs.declared.quantities.Entry.{Entry}
use Rattle.drf_bundle.specs.declared.resource.Resource.{Resource}
use Rattle.drf_rows.specs.Client.{Client, path_of}
use Rattle.drf_rows.specs.Consistent.{IsAgent, IsConsistent}
use Rattle.drf_rows.specs.Cycle.{free_of, new_offer, with_offer, turn, turns, turn_order, at_timestamp, cycle}
use Rattle.drf_rows.specs.Filters.{in_force}
use Rattle.drf_rows.specs.Held.{held_by, cluster_total, weight_of}
use Rattle.drf_rows.specs.Held as rows_word
use Rattle.drf_rows.specs.Holdings.{holding_of_offer, holding_of_task, held_where, is_under}
use Rattle.drf_rows.specs.Share.{Fraction, is_less}
use Rattle.drf_row_laws.proofs.ConsistentLaws.{bundles-consistent}
use Rattle.drf_row_laws.proofs.CycleLaws.{active_clients-with_offer, bundle-free_of, units-free_of}
use Rattle.drf_row_laws.proofs.HoldingsLaws.{held_where-with_offer}
use Rattle.drf_bundle.proofs.ListLaws.{each_at}
use Rattle.drf_row_laws.proofs.WeightLaws.{weight_of-in_range}
use Rattle.drf_rows.specs.declared.rows.AgentRow.{AgentRow}
use Rattle.drf_rows.specs.declared.rows.Rows.{Rows}
use Rattle.drf_sorter.specs.Fractions.{dominant_of, weigh}
use Rattle.drf_sorter.proofs.theorems.OrderLaws.{greatest_above, weighted_share-above}
use Rattle.drf_promises.specs.Apart.{share_of_bundle, largest_agent, weighted_share_at, TakesPart, AreOneAgentApart, NothingHeldIsApart}
use Rattle.drf_promises.specs.Siblings.{child, AtMost, AtMostSum}
use Rattle.drf_promises.specs.Cycles.{active_agents, IsOpen}
use Rattle.drf_promises.specs.Runs.{Has}
use Rattle.drf_laws.proofs.theorems.Cycles.{IsMidway, itself_midway, midway-turn, total_of}
use Rattle.drf_promises.proofs.theorems.Cycles.{begin, all_at}
use Rattle.drf_rows.specs.declared.limits.TheConstants.{LATEST_TIMESTAMP}
use Rattle.std.proofs.Math.Nat.{one-le-mul}
use Rattle.drf_promises.proofs.theorems.First.{first_is_ahead}
use Rattle.drf_promises.proofs.theorems.Less.{amount_falls}
use Rattle.drf_promises.proofs.theorems.Left.{all_tried_less}
use Rattle.drf_promises.proofs.theorems.Open.{all_or_nothing}
use Rattle.drf_promises.proofs.theorems.Shares.{SomeWhole, sum_grows, dominant_grows, weighed_grows, greatest_some, greatest_of, most_trans}
use Rattle.drf_promises.proofs.theorems.Siblings.{one_offer_apart, share_grows}

-- ---- the largest agent

module _ (rows : Rows) where
  some_whole : (a : AgentRow) → SomeWhole (share_of_bundle rows a.total)
  some_whole a = greatest_above (amount_of (quantities_of a.total)) (cluster_total rows.agents)

  pub some_largest : SomeWhole (largest_agent rows)
  some_largest = greatest_some (λ a. share_of_bundle rows a.total) some_whole rows.agents

  -- the free resources of an agent are at most the largest agent
  free_at_most : (agent : AgentRow) → Has rows.agents agent → IsConsistent rows → AtMost (share_of_bundle rows (free_of rows agent)) (largest_agent rows)
  free_at_most agent at consistent =
      let total : IsBundle agent.total = (each_at IsAgent rows.agents at.0 agent consistent.agents.each at.1).total in
      let free : List Resource = free_of rows agent in
      let below = amount_falls free agent.total (bundle-free_of rows agent total) total
      (λ key p. omega (arith, units-free_of rows agent key p total (bundles-consistent rows consistent))) in
      most_trans (share_of_bundle rows free) (share_of_bundle rows agent.total) (largest_agent rows) (some_whole agent)
      (dominant_grows (amount_of (quantities_of free)) (amount_of (quantities_of agent.total)) below (cluster_total rows.agents))
      (greatest_of (λ a. share_of_bundle rows a.total) some_whole rows.agents at.0 agent at.1)

-- ---- one offer of everything that is free

module _ (rows : Rows) (agent : AgentRow) (at : Has rows.agents agent) (consistent : IsConsistent rows) (c : Client) (others : List Client)
    (order : turn_order rows ≡ c ∷ others) (apart : AreOneAgentApart rows) where
  abbrev free : List Resource
  free = free_of rows agent

  abbrev after : Rows
  after = with_offer rows (new_offer rows agent c free)

  held-after : (node : Path) (label : Text)
      → held_by after node label ≡ held_by rows node label + cond (begins_with (path_of c) node) (amount_of (quantities_of free) label) 0
  held-after node label = held_where-with_offer (is_under node) rows (new_offer rows agent c free) label

  grows : (node : Path) → AtMost (weighted_share_at rows node) (weighted_share_at after node)
  unfolding with_offer rows_word.standing_of
  grows node =
      share_grows (rows_word.standing_of rows) (rows_word.standing_of after) node refl (λ label. omega (arith, held-after node label)) (omega arith)

  stays : (node : Path) → begins_with (path_of c) node ≡ false → weighted_share_at after node ≡ weighted_share_at rows node
  unfolding with_offer rows_word.standing_of
  stays node other =
      let same : (label : Text) → held_by after node label ≡ held_by rows node label =
      λ label. omega (arith, held-after node label, ap (λ b. cond b (amount_of (quantities_of free) label) 0) other) in
      λ i. weigh (dominant_of (λ label. same label i) (cluster_total rows.agents)) (weight_of rows.weights node)

  some_share : (node : Path) → SomeWhole (weighted_share_at rows node)
  unfolding rows_word.standing_of
  some_share node = weighted_share-above (rows_word.standing_of rows) node (weight_of-in_range rows.weights node consistent.weights.each).0

  some_weighed : (f : Fraction) (node : Path) → SomeWhole f → SomeWhole (weigh f (weight_of rows.weights node))
  some_weighed f node some = one-le-mul some (weight_of-in_range rows.weights node consistent.weights.each).0

  pub offer_apart : AreOneAgentApart after
  unfolding with_offer rows_word.standing_of
  offer_apart parent a b takes =
      let A : Path = child parent a in
      let B : Path = child parent b in
      let w : ℕ = weight_of rows.weights A in
      let most : Fraction = largest_agent rows in
      let took : TakesPart rows B =
      ap (list_any (λ d. begins_with (path_of d) B)) (sym (active_clients-with_offer rows (new_offer rows agent c free))) ∙ takes in
      elim (cases_Bool (begins_with (path_of c) A)) [
        | inl its ↦ elim (cases_Bool (same_text a b)) [
          | inl same ↦
              subst (λ (name : Text). AtMostSum (weighted_share_at after A) (weighted_share_at after (child parent name)) (weigh most w))
              (same_from_test a b same) (omega arith)
          | inr other ↦
              let ahead = first_is_ahead rows consistent c others order parent a b its took other in
              let u : Text → ℕ = amount_of (quantities_of free) in
              let got = one_offer_apart (rows_word.standing_of rows) (rows_word.standing_of after) parent a b u ahead (record {
                held = λ label. held-after A label ∙ ap (λ x. held_by rows A label + cond x (u label) 0) its;
                weight = refl;
                total = refl;
              }) in
              sum_grows (weighted_share_at after A) (weighted_share_at rows B) (weigh (share_of_bundle rows free) w) (weighted_share_at after B) (weigh most w)
              (some_share B) (some_weighed (share_of_bundle rows free) A (greatest_above u (cluster_total rows.agents))) got (grows B)
              (weighed_grows (share_of_bundle rows free) most w w (free_at_most rows agent at consistent) (omega arith))
        ]
        | inr other ↦
            sum_grows (weighted_share_at after A) (weighted_share_at rows B) (weigh most w) (weighted_share_at after B) (weigh most w)
            (some_share B) (some_weighed most A (some_largest rows))
            (subst (λ (f : Fraction). AtMostSum f (weighted_share_at rows B) (weigh most w)) (sym (stays A other)) (apart parent a b took))
            (grows B) (omega arith)
      ]

-- ---- turns and cycles

pub stays_open : (rows : Rows) (agent : AgentRow) → Has rows.agents agent → IsConsistent rows → IsOpen rows → IsOpen (turn rows agent)
unfolding turn
stays_open rows agent at consistent is_open =
    let mid = midway-turn rows rows agent at (itself_midway rows consistent) in
    let less = all_tried_less agent (total_of rows rows agent at (itself_midway rows consistent)) rows (turn_order rows) agent
    (total_of rows rows agent at (itself_midway rows consistent)) (bundles-consistent rows consistent) in
    record {
      unreserved = subst (AllByRecursion (λ a. is_unreserved a.total ≡ true)) (sym mid.agents) is_open.unreserved;
      limits = less.limits ∙ is_open.limits;
      filters = (λ i. in_force (less.clock i) (less.filters i)) ∙ is_open.filters;
    }

turn_apart : (rows : Rows) (agent : AgentRow) → Has rows.agents agent → IsConsistent rows → IsOpen rows → AreOneAgentApart rows
    → AreOneAgentApart (turn rows agent)
turn_apart rows agent at consistent is_open apart =
    let total = total_of rows rows agent at (itself_midway rows consistent) in
    let none = each_at (λ a. is_unreserved a.total ≡ true) rows.agents at.0 agent is_open.unreserved at.1 in
    elim (all_or_nothing rows is_open agent total none (bundles-consistent rows consistent)) [
      | inl nothing ↦ subst AreOneAgentApart (sym nothing) apart
      | inr all ↦ subst AreOneAgentApart (sym all.offered) (offer_apart rows agent at consistent all.first all.others all.order apart)
    ]

module _ (start : Rows) where
  turns_apart : (rows : Rows) (agents : List AgentRow) → AllByRecursion (Has start.agents) agents → IsMidway start rows → IsOpen rows → AreOneAgentApart rows
      → IsOpen (turns rows agents) × AreOneAgentApart (turns rows agents)
  turns_apart rows [] at mid is_open apart = (is_open, apart)
  turns_apart rows (agent ∷ agents) at mid is_open apart =
      let here : Has rows.agents agent = (at.0.0, ap (λ (as' : List AgentRow). slice_get as' at.0.0) mid.agents ∙ at.0.1) in
      turns_apart (turn rows agent) agents at.1 (midway-turn start rows agent at.0 mid)
      (stays_open rows agent here mid.consistent is_open) (turn_apart rows agent here mid.consistent is_open apart)

pub cycle_apart : (rows : Rows) (at : ℕ) → IsConsistent rows → at ≤ LATEST_TIMESTAMP → IsOpen (at_timestamp rows at) → AreOneAgentApart rows
    → IsOpen (cycle rows at) × AreOneAgentApart (cycle rows at)
unfolding cycle rows_word.standing_of
cycle_apart rows at consistent early is_open apart =
    turns_apart (at_timestamp rows at) (at_timestamp rows at) (active_agents rows) (all_at rows at consistent early) (begin rows at consistent early)
    is_open (λ parent a b takes. apart parent a b takes)

-- ---- states in which nothing is held

pub none_held : (es : List Entry) → (dominant_of (λ label. 0) es).part ≡ 0
none_held [] = refl
none_held (e ∷ es) = elim (cases_Bool (nat_lt 0 e.amount)) [
  | inl some ↦ rw some (by (is_less (record { part = 0; whole = e.amount }) (dominant_of (λ label. 0) es)) (none_held es))
  | inr none ↦ rw none (none_held es)
]
  where
    by : (b : Bool) → (dominant_of (λ label. 0) es).part ≡ 0 → (if b then dominant_of (λ label. 0) es else record { part = 0; whole = e.amount }).part ≡ 0
    by true none = none
    by false none = refl

nothing_at_most : (f g h : Fraction) → f.part ≡ 0 → AtMostSum f g h
nothing_at_most f g h none = omega (arith, ap (λ n. n * (g.whole * h.whole)) none)

pub nothing_held_is_apart : NothingHeldIsApart
unfolding rows_word.standing_of
nothing_held_is_apart rows offers tasks parent a b takes =
    let A : Path = child parent a in
    let none : (label : Text) → held_by rows A label ≡ 0 =
    λ label. λ i. held_where (is_under A) (map holding_of_offer (offers i) ++ map holding_of_task (tasks i)) label in
    let part : (weighted_share_at rows A).part ≡ 0 =
    ap (λ n. n * 1000) ((λ i. (dominant_of (λ label. none label i) (cluster_total rows.agents)).part) ∙ none_held (cluster_total rows.agents)) in
    nothing_at_most (weighted_share_at rows A) (weighted_share_at rows (child parent b)) (weigh (largest_agent rows) (weight_of rows.weights A)) part
