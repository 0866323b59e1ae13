-- In runs of cycles, reports, accepts of whole offers and activations of agents, no other client overtakes a client whose
-- own nodes get nothing.
use Rattle.std.specs.Prelude.{◌≡◌, ℕ, ◌≤◌, true, List, [], ◌∷◌, Option, Some, None}
use Rattle.std.specs.List.{AllByRecursion}
use Rattle.std.specs.Option.{option_map_or}
use Rattle.std.proofs.Common.{refl, sym, ap, subst, ◌∙◌, arith}
use Rattle.drf_role.specs.Path.{Path}
use Rattle.drf_role.specs.Text.{Text}
use Rattle.drf_bundle.specs.Bundle.{IsBundle}
use Rattle.drf_rows.specs.Client.{path_of}
use Rattle.drf_rows.specs.Consistent.{IsConsistent}
use Rattle.drf_rows.specs.Cycle.{at_timestamp, with_offer, cycle}
use Rattle.drf_rows.specs.Held.{cluster_total, count_of, held_by, weight_of}
use Rattle.drf_rows.specs.Held as rows_word
use Rattle.drf_rows.specs.Holdings.{is_under}
use Rattle.drf_rows.specs.LimitNumbers.{LimitNumbers}
use Rattle.drf_rows.specs.Offers.{offer_accepted, offer_at}
use Rattle.drf_rows.specs.Step.{refusal_of, effect, rows_after, rows_after_all}
use Rattle.drf_rows.specs.Tasks.{uses}
use Rattle.drf_row_laws.proofs.FrameLaws.{any_turns}
use Rattle.drf_row_laws.proofs.HoldingsLaws.{held_where-with_offer}
use Rattle.drf_row_laws.proofs.MemberLaws.{cluster_total-with_activity}
use Rattle.drf_row_laws.proofs.StepLaws.{rows_after-accepted, rows_after-refused}
use Rattle.drf_row_laws.proofs.WeightLaws.{weight_of-in_range}
use Rattle.drf_rows.specs.declared.event.Accept as accepting
use Rattle.drf_rows.specs.declared.event.Event.{Event}
use Rattle.drf_rows.specs.declared.event.Event.TheVariants.{ActivateAgent, Accept, Cycle, Report}
use Rattle.drf_rows.specs.declared.reply.Refusal.{Refusal}
use Rattle.drf_rows.specs.declared.rows.OfferRow.{OfferRow}
use Rattle.drf_rows.specs.declared.rows.Rows.{Rows}
use Rattle.drf_rows.specs.declared.rows.WeightRow.{WeightRow}
use Rattle.drf_laws.specs.RunLaws.{AreGiven, IsGiven}
use Rattle.drf_laws.proofs.theorems.Runs.{IsConsistent-after}
use Rattle.drf_promises.specs.Apart.{AllKeepAll, KeepsAll}
use Rattle.drf_promises.specs.Cycles.{active_agents}
use Rattle.drf_promises.specs.Overtaken.{NobodyOvertakes}
use Rattle.drf_promises.proofs.theorems.ApartRuns.{held-accepted}
use Rattle.drf_promises.proofs.theorems.Counts.{count-with_offer}
use Rattle.drf_promises.proofs.theorems.Siblings.{more_is_later}

-- no node holds less or has received fewer offers, and totals and weights stay
record Grows (rows after : Rows) : Type 0 where
  held : (node : Path) (label : Text) → held_by rows node label ≤ held_by after node label
  count : (node : Path) → count_of rows node ≤ count_of after node
  total : cluster_total after.agents ≡ cluster_total rows.agents
  weights : after.weights ≡ rows.weights

grows_by_nothing : (rows : Rows) → Grows rows rows
grows_by_nothing rows = record { held = λ node label. omega arith; count = λ node. omega arith; total = refl; weights = refl }

grows_on : (rows mid after : Rows) → Grows rows mid → Grows mid after → Grows rows after
grows_on rows mid after first second = record {
  held = λ node label. omega (arith, first.held node label, second.held node label);
  count = λ node. omega (arith, first.count node, second.count node);
  total = second.total ∙ first.total;
  weights = second.weights ∙ first.weights;
}

-- ---- a cycle

grows-offer : (rows : Rows) (offer : OfferRow) → Grows rows (with_offer rows offer)
unfolding with_offer
grows-offer rows offer = record {
  held = λ node label. omega (arith, held_where-with_offer (is_under node) rows offer label);
  count = λ node. omega (arith, count-with_offer rows offer node);
  total = refl;
  weights = refl;
}

grows-cycle : (rows : Rows) (at : ℕ) → Grows rows (cycle rows at)
unfolding cycle
grows-cycle rows at =
    let start : Rows = at_timestamp rows at in
    let all = any_turns (Grows start) (λ r offer so. grows_on start r (with_offer r offer) so (grows-offer r offer)) start (active_agents rows) (grows_by_nothing start) in
    record { held = all.held; count = all.count; total = all.total; weights = all.weights }

-- ---- an event

module _ (limits : LimitNumbers) (rows : Rows) (consistent : IsConsistent rows) where
  grows-accept : (a : accepting.Accept) → AllByRecursion IsBundle (uses a.tasks) → KeepsAll rows (Accept a) → refusal_of limits rows (Accept a) ≡ None
      → (found : Option OfferRow) → offer_at rows a.offer ≡ found
      → Grows rows (option_map_or (λ o. offer_accepted (at_timestamp rows a.at) o a.tasks a.refuse_ms) found rows)
  grows-accept a given keeps accepted None found = grows_by_nothing rows
  grows-accept a given keeps accepted (Some o) found = record {
    held = λ node label. omega (arith, held-accepted limits rows consistent a given accepted o found (keeps o found) node label);
    count = λ node. omega arith;
    total = refl;
    weights = refl;
  }

  grows-effect : (event : Event) → IsGiven event → KeepsAll rows event → refusal_of limits rows event ≡ None → Grows rows (effect rows event)
  unfolding effect
  grows-effect (Cycle at) given keeps accepted = grows-cycle rows at
  grows-effect (Accept a) given keeps accepted = grows-accept a given keeps accepted (offer_at rows a.offer) refl
  grows-effect (ActivateAgent name) given keeps accepted = record {
    held = λ node label. omega arith;
    count = λ node. omega arith;
    total = cluster_total-with_activity rows name true;
    weights = refl;
  }
  grows-effect Report given keeps accepted = grows_by_nothing rows
  grows-effect event given keeps accepted = absurd keeps

  grows-after : (event : Event) → IsGiven event → KeepsAll rows event → Grows rows (rows_after limits rows event)
  grows-after event given keeps = by (refusal_of limits rows event) refl
    where
      by : (found : Option Refusal) → refusal_of limits rows event ≡ found → Grows rows (rows_after limits rows event)
      by None accepted =
          let all = grows-effect event given keeps accepted in
          subst (Grows rows) (sym (rows_after-accepted limits rows event accepted))
          (record { held = all.held; count = all.count; total = all.total; weights = all.weights })
      by (Some refusal) refused = subst (Grows rows) (sym (rows_after-refused limits rows event refusal refused)) (grows_by_nothing rows)

-- ---- a run

grows-run : (limits : LimitNumbers) (rows : Rows) (events : List Event) → IsConsistent rows → AreGiven events → AllKeepAll limits rows events
    → Grows rows (rows_after_all limits rows events)
grows-run limits rows [] consistent given keep = grows_by_nothing rows
grows-run limits rows (event ∷ events) consistent given keep =
    let next : Rows = rows_after limits rows event in
    grows_on rows next (rows_after_all limits next events) (grows-after limits rows consistent event given.0 keep.0)
    (grows-run limits next events (IsConsistent-after limits rows event consistent given.0) given.1 keep.1)

pub nobody_overtakes : NobodyOvertakes
unfolding rows_word.standing_of
nobody_overtakes limits rows events first second consistent given keep got_nothing before =
    let all = grows-run limits rows events consistent given keep in
    more_is_later (rows_word.standing_of rows) (rows_word.standing_of after) (path_of first) (path_of second) weighs
    (λ node. omega (arith, weighs node, same_weight node)) all.total
    (λ node own apart.
    let none = got_nothing node own apart in
    record {
      held = λ label. omega (arith, none.held label);
      count = omega (arith, none.count);
      weight = omega (arith, same_weight node);
    })
    (λ node own apart. record { held = all.held node; count = all.count node; weight = omega (arith, same_weight node) }) before
  where
    after : Rows
    after = rows_after_all limits rows events

    weighs : (node : Path) → 1 ≤ weight_of rows.weights node
    weighs node = (weight_of-in_range rows.weights node consistent.weights.each).0

    same_weight : (node : Path) → weight_of after.weights node ≡ weight_of rows.weights node
    same_weight node = ap (λ (ws : List WeightRow). weight_of ws node) (grows-run limits rows events consistent given keep).weights
