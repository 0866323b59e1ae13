-- Siblings stay at most one agent apart in runs of cycles, reports, accepts of whole offers and activations of agents.
use Rattle.std.specs.Prelude.{◌≡◌, ℕ, max, Bool, true, false, not, ◌&&◌, List, [], ◌∷◌, ◌++◌, map, Option, Some, None, if◌then◌else◌, nat_lt}
use Rattle.std.specs.List.{AllByRecursion, list_any}
use Rattle.std.specs.Option.{option_map_or}
use Rattle.std.proofs.Common.{refl, sym, ap, subst, ◌∙◌, cond, arith}
use Rattle.std.proofs.lemmas.Simd.{map-map}
use Rattle.drf_role.specs.Path.{Path, begins_with}
use Rattle.drf_role.specs.Text.{Text, same_text}
use Rattle.drf_bundle.specs.Bundle.{IsBundle, is_unreserved, quantities_of}
use Rattle.drf_bundle.specs.Quantities.{amount_of}
use Rattle.drf_bundle.specs.declared.resource.Resource.{Resource}
use Rattle.drf_rows.specs.Client.{path_of}
use Rattle.drf_rows.specs.Consistent.{IsConsistent}
use Rattle.drf_rows.specs.Cycle.{at_timestamp}
use Rattle.drf_rows.specs.Filters.{in_force}
use Rattle.drf_rows.specs.Held.{active_clients, held_by, cluster_total, weight_of}
use Rattle.drf_rows.specs.Held as rows_word
use Rattle.drf_rows.specs.Holdings.{holding_of_offer, is_under}
use Rattle.drf_rows.specs.LimitNumbers.{LimitNumbers}
use Rattle.drf_rows.specs.Members.{active_at, with_activity}
use Rattle.drf_rows.specs.Offers.{is_empty, filter_of, filtered_until, left_of_offer, offer_accepted, offer_at}
use Rattle.drf_rows.specs.Share.{Fraction, greatest}
use Rattle.drf_rows.specs.Step.{refusal_of, effect, rows_after}
use Rattle.drf_rows.specs.Tasks.{uses}
use Rattle.drf_laws.proofs.ConsumptionLaws.{covered-accept}
use Rattle.drf_row_laws.proofs.ReleaseLaws.{held_where-accepted, offer_held}
use Rattle.drf_bundle.proofs.ListLaws.{each_from, each_map}
use Rattle.drf_row_laws.proofs.MemberLaws.{cluster_total-with_activity}
use Rattle.drf_row_laws.proofs.StepLaws.{rows_after-accepted, rows_after-refused}
use Rattle.drf_rows.proofs.TaskLaws.{units-covers_all}
use Rattle.drf_rows.specs.declared.event.Accept as accepting
use Rattle.drf_rows.specs.declared.event.Event.{Event}
use Rattle.drf_rows.specs.declared.event.Event.TheVariants.{ActivateAgent, Accept, Cycle, Report}
use Rattle.drf_rows.specs.declared.reply.Refusal.{Refusal}
use Rattle.drf_rows.specs.declared.rows.AgentRow.{AgentRow}
use Rattle.drf_rows.specs.declared.rows.OfferRow.{OfferRow}
use Rattle.drf_rows.specs.declared.rows.Rows.{Rows}
use Rattle.drf_laws.specs.RunLaws.{IsGiven}
use Rattle.drf_laws.proofs.theorems.Runs.{IsConsistent-after}
use Rattle.drf_laws.proofs.theorems.Welcome.{early_cycle}
use Rattle.drf_sorter.specs.Fractions.{dominant_of, weigh}
use Rattle.drf_promises.specs.Cycles.{IsOpen}
use Rattle.drf_promises.specs.Apart.{share_of_bundle, largest_agent, weighted_share_at, AreOneAgentApart, KeepsAll, RunsStayApart}
use Rattle.drf_promises.specs.Siblings.{child, AtMostSum}
use Rattle.drf_promises.proofs.theorems.Apart.{cycle_apart}
use Rattle.drf_promises.proofs.theorems.Unfiltered.{unfiltered_later}

-- ---- two states in which every client holds the same

module _ (rows after : Rows) (held : (node : Path) (label : Text) → held_by after node label ≡ held_by rows node label)
    (active : active_clients after ≡ active_clients rows) (weights : after.weights ≡ rows.weights)
    (total : cluster_total after.agents ≡ cluster_total rows.agents) (largest : largest_agent after ≡ largest_agent rows) where
  alike : (node : Path) → weighted_share_at after node ≡ weighted_share_at rows node
  unfolding rows_word.standing_of
  alike node = λ i. weigh (dominant_of (λ label. held node label i) (total i)) (weight_of (weights i) node)

  stays_apart : AreOneAgentApart rows → AreOneAgentApart after
  stays_apart apart parent a b takes =
      let A : Path = child parent a in
      let B : Path = child parent b in
      subst (λ (p : Fraction × Fraction × Fraction). AtMostSum p.0 p.1 p.2)
      (sym (λ i. (alike A i, alike B i, weigh (largest i) (weight_of (weights i) A))))
      (apart parent a b (ap (list_any (λ c. begins_with (path_of c) B)) (sym active) ∙ takes))

-- ---- an accept that uses the whole offer

module _ (limits : LimitNumbers) (rows : Rows) (consistent : IsConsistent rows) (a : accepting.Accept) (given : AllByRecursion IsBundle (uses a.tasks))
    (accepted : refusal_of limits rows (Accept a) ≡ None) (o : OfferRow) (found : offer_at rows a.offer ≡ Some o)
    (whole : left_of_offer o a.tasks ≡ []) where
  abbrev after : Rows
  after = offer_accepted (at_timestamp rows a.at) o a.tasks a.refuse_ms

  pub held-accepted : (node : Path) (label : Text) → held_by after node label ≡ held_by rows node label
  held-accepted node label =
      let bundle : IsBundle o.bundle = (offer_held rows a.offer o a.tasks [] consistent found).bundle in
      let has = units-covers_all o.bundle (uses a.tasks) bundle given (covered-accept limits rows a o found accepted) in
      let sums = held_where-accepted rows a.offer o a.tasks [] consistent found (is_under node) label given has (λ s. refl) in
      omega (
        arith,
        sums,
        ap (λ (left : List Resource). cond (is_under node (holding_of_offer o)) (amount_of (quantities_of left) label) 0) whole,
        nothing (is_under node (holding_of_offer o)),
      )
    where
      nothing : (b : Bool) → ◌≡◌ {A = ℕ} (cond b 0 0) 0
      nothing true = refl
      nothing false = refl

  filters-accepted : after.filters ≡ rows.filters
  filters-accepted = by (nat_lt 0 a.refuse_ms) (left_of_offer o a.tasks) whole
    where
      by : (some : Bool) (left : List Resource) → left ≡ []
          → (if some && not (is_empty left) then rows.filters ++ filter_of o (left_of_offer o a.tasks) (filtered_until (at_timestamp rows a.at).clock a.refuse_ms) ∷ [] else rows.filters)
          ≡ rows.filters
      by false left none = refl
      by true [] none = refl
      by true (r ∷ rs) none = cc

-- ---- activating an agent

module _ (rows : Rows) (name : Text) where
  abbrev activated : Rows
  activated = record rows { agents = with_activity rows name true }

  total_stays : (a : AgentRow) → (active_at name true a).total ≡ a.total
  total_stays a = by (same_text a.name name)
    where
      by : (b : Bool) → (if b then record a { active = true } else a).total ≡ a.total
      by true = refl
      by false = refl

  largest-activated : largest_agent activated ≡ largest_agent rows
  largest-activated =
      ap greatest
      (map-map (λ (a : AgentRow). share_of_bundle activated a.total) (active_at name true) rows.agents
      ∙ (λ i. map (λ a. dominant_of (amount_of (quantities_of (total_stays a i))) (cluster_total-with_activity rows name true i)) rows.agents))

  open-activated : IsOpen rows → IsOpen activated
  open-activated is_open = record {
    unreserved = each_map (λ a. is_unreserved a.total ≡ true) (active_at name true) rows.agents
        (each_from (λ a. is_unreserved a.total ≡ true) (λ a. is_unreserved (active_at name true a).total ≡ true) rows.agents
        (λ a none. ap is_unreserved (total_stays a) ∙ none) is_open.unreserved);
    limits = is_open.limits;
    filters = is_open.filters;
  }

-- ---- an event

abbrev Shared : Rows → Type 0
Shared rows = IsOpen rows × AreOneAgentApart rows

module _ (limits : LimitNumbers) (rows : Rows) (consistent : IsConsistent rows) (is_open : IsOpen rows) (apart : AreOneAgentApart rows) where
  open_later : (at : ℕ) → IsOpen (at_timestamp rows at)
  open_later at = record {
    unreserved = is_open.unreserved;
    limits = is_open.limits;
    filters = unfiltered_later rows.clock rows.filters is_open.filters (max rows.clock at) (omega arith);
  }

  shared-accept : (a : accepting.Accept) → AllByRecursion IsBundle (uses a.tasks) → KeepsAll rows (Accept a) → refusal_of limits rows (Accept a) ≡ None
      → (found : Option OfferRow) → offer_at rows a.offer ≡ found
      → Shared (option_map_or (λ o. offer_accepted (at_timestamp rows a.at) o a.tasks a.refuse_ms) found rows)
  shared-accept a given keeps accepted None found = (is_open, apart)
  shared-accept a given keeps accepted (Some o) found = (
    record {
      unreserved = is_open.unreserved;
      limits = is_open.limits;
      filters =
          ap (in_force (max rows.clock a.at)) (filters-accepted limits rows consistent a given accepted o found (keeps o found))
          ∙ (open_later a.at).filters;
    },
    stays_apart rows (offer_accepted (at_timestamp rows a.at) o a.tasks a.refuse_ms)
        (held-accepted limits rows consistent a given accepted o found (keeps o found)) refl refl refl refl apart,
  )

  shared-effect : (event : Event) → IsGiven event → KeepsAll rows event → refusal_of limits rows event ≡ None → Shared (effect rows event)
  unfolding effect
  shared-effect (Cycle at) given keeps accepted = cycle_apart rows at consistent (early_cycle limits rows at accepted) (open_later at) apart
  shared-effect (Accept a) given keeps accepted = shared-accept a given keeps accepted (offer_at rows a.offer) refl
  shared-effect (ActivateAgent name) given keeps accepted = (
    open-activated rows name is_open,
    stays_apart rows (activated rows name) (λ node label. refl) refl refl (cluster_total-with_activity rows name true) (largest-activated rows name) apart,
  )
  shared-effect Report given keeps accepted = (is_open, apart)
  shared-effect other given keeps accepted = absurd keeps

  shared-after : (event : Event) → IsGiven event → KeepsAll rows event → Shared (rows_after limits rows event)
  unfolding rows_word.standing_of
  shared-after event given keeps = by (refusal_of limits rows event) refl
    where
      by : (found : Option Refusal) → refusal_of limits rows event ≡ found → Shared (rows_after limits rows event)
      by None accepted =
          let all = shared-effect event given keeps accepted in
          subst Shared (sym (rows_after-accepted limits rows event accepted))
          (record { unreserved = all.0.unreserved; limits = all.0.limits; filters = all.0.filters }, λ parent a b takes. all.1 parent a b takes)
      by (Some refusal) refused = subst Shared (sym (rows_after-refused limits rows event refusal refused)) (is_open, apart)

-- ---- a run

pub runs_stay_apart : RunsStayApart
runs_stay_apart limits rows [] consistent is_open given keep apart = apart
runs_stay_apart limits rows (event ∷ events) consistent is_open given keep apart =
    let next = shared-after limits rows consistent is_open apart event given.0 keep.0 in
    runs_stay_apart limits (rows_after limits rows event) events (IsConsistent-after limits rows event consistent given.0) next.0 given.1 keep.1 next.1
