-- In a run, a child that is offered nothing is passed over in at most as many turns as the lead of the others allows.
use Rattle.std.specs.Prelude.{◌≡◌, ℕ, ◌+◌, ◌≤◌, true, List, [], ◌∷◌, Option, Some, None}
use Rattle.std.specs.List.{AllByRecursion, list_any}
use Rattle.std.specs.Option.{option_map_or}
use Rattle.std.proofs.Common.{refl, sym, ap, subst, inl, inr, arith}
use Rattle.std.proofs.lemmas.Bool.{cases_Bool}
use Rattle.drf_role.specs.Path.{Path, begins_with}
use Rattle.drf_role.specs.Text.{Text}
use Rattle.drf_rows.specs.Client.{Client, path_of}
use Rattle.drf_rows.specs.Consistent.{IsConsistent}
use Rattle.drf_rows.specs.Cycle.{at_timestamp, turn, turns, turn_order, cycle}
use Rattle.drf_rows.specs.Held.{count_of}
use Rattle.drf_rows.specs.LimitNumbers.{LimitNumbers}
use Rattle.drf_rows.specs.Step.{refusal_of, effect, rows_after, rows_after_all}
use Rattle.drf_row_laws.proofs.FrameLaws.{only_changed}
use Rattle.drf_row_laws.proofs.StepLaws.{rows_after-accepted, rows_after-refused}
use Rattle.drf_rows.specs.declared.event.Event.{Event}
use Rattle.drf_rows.specs.declared.event.Event.TheVariants.{AddFramework, SetFramework, RemoveFramework, Suppress, Revive, Cycle}
use Rattle.drf_rows.specs.declared.reply.Refusal.{Refusal}
use Rattle.drf_rows.specs.declared.rows.AgentRow.{AgentRow}
use Rattle.drf_rows.specs.declared.rows.FrameworkRow.{FrameworkRow}
use Rattle.drf_rows.specs.declared.rows.Rows.{Rows}
use Rattle.drf_laws.specs.RunLaws.{AreGiven}
use Rattle.drf_laws.proofs.theorems.Runs.{IsConsistent-after}
use Rattle.drf_laws.proofs.theorems.Welcome.{early_cycle}
use Rattle.drf_promises.specs.Apart.{AreClientsOf}
use Rattle.drf_promises.specs.Cycles.{active_agents}
use Rattle.drf_promises.specs.Passes.{is_passed, lead_of, passes_at, passes_in_turns, KeepsFrameworks, PassesAreFew}
use Rattle.drf_promises.specs.Siblings.{child}
use Rattle.drf_promises.specs.Runs.{Has}
use Rattle.drf_laws.proofs.theorems.Cycles.{IsMidway, midway-turn}
use Rattle.drf_promises.proofs.theorems.Cycles.{all_at, begin, end}
use Rattle.drf_promises.proofs.theorems.Passes.{count-all_tried, turn_keeps, turn_passes}

-- ---- a cycle

count-turns : (rows : Rows) (agents : List AgentRow) (node : Path) → count_of rows node ≤ count_of (turns rows agents) node
unfolding turn
count-turns rows [] node = omega arith
count-turns rows (agent ∷ agents) node = omega (arith, count-all_tried rows agent (turn_order rows) node, count-turns (turn rows agent) agents node)

module _ (start : Rows) (parent : Path) (one : Text) (others : List Text) where
  abbrev mine : Path
  mine = child parent one

  abbrev All : List Client → Type 0
  All cs = AllByRecursion (λ c. list_any (λ name. begins_with (path_of c) (child parent name)) (one ∷ others) ≡ true) cs

  turns_pass : (rows : Rows) (agents : List AgentRow) → AllByRecursion (Has start.agents) agents → IsMidway start rows → AreClientsOf start parent (one ∷ others)
      → count_of (turns rows agents) mine ≡ count_of rows mine
      → passes_in_turns mine rows agents + lead_of (turns rows agents) parent one others ≤ lead_of rows parent one others
  unfolding turn
  turns_pass rows [] at mid clients same = omega arith
  turns_pass rows (agent ∷ agents) at mid clients same =
      let next : Rows = turn rows agent in
      let first = count-all_tried rows agent (turn_order rows) mine in
      let last = count-turns next agents mine in
      let still : count_of next mine ≡ count_of rows mine = omega (arith, first, last, same) in
      let later = turns_pass next agents at.1 (midway-turn start rows agent at.0 mid) clients (omega (arith, first, last, same)) in
      let own : AreClientsOf rows parent (one ∷ others) = subst All (sym mid.active) clients in
      elim (cases_Bool (is_passed mine rows agent)) [
        | inl passed ↦ rw passed (omega (arith, later, turn_passes rows agent parent one others mid.consistent own still passed))
        | inr other ↦ rw other (omega (arith, later, turn_keeps rows agent parent one others mid.consistent own still))
      ]

-- ---- an event

module _ (limits : LimitNumbers) (rows : Rows) (consistent : IsConsistent rows) (parent : Path) (one : Text) (others : List Text) where
  abbrev its : Path
  its = child parent one

  abbrev names : List Text
  names = one ∷ others

  -- an event lowers no count, keeps the active clients, and uses up as much of the lead as it has passes
  record Goes (event : Event) (passes : ℕ) (after : Rows) : Type 0 where
    rises : count_of rows its ≤ count_of after its
    clients : AreClientsOf rows parent names → AreClientsOf after parent names
    lead : AreClientsOf rows parent names → count_of after its ≡ count_of rows its → passes + lead_of after parent one others ≤ lead_of rows parent one others

  goes_on : (event : Event) (after : Rows) → after.frameworks ≡ rows.frameworks → Goes event 0 after
  goes_on event after same = record {
    rises = omega (arith, ap (λ (fs : List FrameworkRow). count_of (record rows { frameworks = fs }) its) same);
    clients = λ all. subst (λ (fs : List FrameworkRow). AreClientsOf (record rows { frameworks = fs }) parent names) (sym same) all;
    lead = λ all still. omega (arith, ap (λ (fs : List FrameworkRow). lead_of (record rows { frameworks = fs }) parent one others) same);
  }

  goes_cycle : (at : ℕ) → refusal_of limits rows (Cycle at) ≡ None
      → Goes (Cycle at) (passes_in_turns its (at_timestamp rows at) (active_agents rows)) (cycle rows at)
  unfolding cycle
  goes_cycle at accepted =
      let early = early_cycle limits rows at accepted in
      let start : Rows = at_timestamp rows at in
      record {
        rises = count-turns start (active_agents rows) its;
        clients = λ all. subst (All start parent one others) (sym (end rows at consistent early).active) all;
        lead = λ all still.
            turns_pass start parent one others start (active_agents rows) (all_at rows at consistent early) (begin rows at consistent early) all still;
      }

  goes_effect : (event : Event) → KeepsFrameworks event → refusal_of limits rows event ≡ None → Goes event (passes_at limits its rows event) (effect rows event)
  unfolding effect
  goes_effect (Cycle at) keeps accepted =
      subst (λ (n : ℕ). Goes (Cycle at) n (cycle rows at))
      (sym (ap (λ (r : Option Refusal). option_map_or (λ refusal. 0) r (passes_in_turns its (at_timestamp rows at) (active_agents rows))) accepted))
      (goes_cycle at accepted)
  goes_effect (AddFramework framework roles) keeps accepted = absurd keeps
  goes_effect (SetFramework framework roles) keeps accepted = absurd keeps
  goes_effect (RemoveFramework framework) keeps accepted = absurd keeps
  goes_effect (Suppress framework role) keeps accepted = absurd keeps
  goes_effect (Revive framework role) keeps accepted = absurd keeps
  goes_effect other keeps accepted = goes_on other (effect rows other) (ap (λ (r : Rows). r.frameworks) (only_changed rows other))

  none_refused : (event : Event) (refusal : Refusal) → refusal_of limits rows event ≡ Some refusal → passes_at limits its rows event ≡ 0
  none_refused (Cycle at) refusal refused =
      ap (λ (r : Option Refusal). option_map_or (λ refusal. 0) r (passes_in_turns its (at_timestamp rows at) (active_agents rows))) refused
  none_refused other refusal refused = refl

  goes_after : (event : Event) → KeepsFrameworks event → Goes event (passes_at limits its rows event) (rows_after limits rows event)
  goes_after event keeps = by (refusal_of limits rows event) refl
    where
      by : (found : Option Refusal) → refusal_of limits rows event ≡ found → Goes event (passes_at limits its rows event) (rows_after limits rows event)
      by None accepted =
          let goes = goes_effect event keeps accepted in
          subst (Goes event (passes_at limits its rows event)) (sym (rows_after-accepted limits rows event accepted))
          (record { rises = goes.rises; clients = goes.clients; lead = goes.lead })
      by (Some refusal) refused =
          subst (Goes event (passes_at limits its rows event)) (sym (rows_after-refused limits rows event refusal refused))
          (subst (λ (n : ℕ). Goes event n rows) (sym (none_refused event refusal refused)) (goes_on event rows refl))

-- ---- a run

count-run : (limits : LimitNumbers) (rows : Rows) (events : List Event) (parent : Path) (one : Text) → IsConsistent rows → AreGiven events
    → AllByRecursion KeepsFrameworks events → count_of rows (child parent one) ≤ count_of (rows_after_all limits rows events) (child parent one)
count-run limits rows [] parent one consistent given keep = omega arith
count-run limits rows (event ∷ events) parent one consistent given keep =
    omega (
      arith,
      (goes_after limits rows consistent parent one [] event keep.0).rises,
      count-run limits (rows_after limits rows event) events parent one (IsConsistent-after limits rows event consistent given.0) given.1 keep.1,
    )

pub passes_are_few : PassesAreFew
passes_are_few limits rows [] parent one others consistent given keep clients same = omega arith
passes_are_few limits rows (event ∷ events) parent one others consistent given keep clients same =
    let next : Rows = rows_after limits rows event in
    let goes = goes_after limits rows consistent parent one others event keep.0 in
    let right = IsConsistent-after limits rows event consistent given.0 in
    let later = count-run limits next events parent one right given.1 keep.1 in
    let still : count_of next (child parent one) ≡ count_of rows (child parent one) = omega (arith, goes.rises, later, same) in
    omega (
      arith,
      goes.lead clients still,
      passes_are_few limits next events parent one others right given.1 keep.1 (goes.clients clients) (omega (arith, still, same)),
    )
