-- Each agent is counted once for a client, and a client is counted as passed over exactly if some client passes over it.
use Rattle.std.specs.Prelude.{◌≡◌, ℕ, suc, ◌+◌, ◌-◌, ◌^◌, ◌<◌, min, Bool, true, false, not, ◌||◌, List, [], ◌∷◌, length, filter, fold, Option, Some, if◌then◌else◌}
use Rattle.std.specs.List.{AllByRecursion, list_all, list_any}
use Rattle.std.specs.Option.{option_map_or}
use Rattle.std.proofs.Common.{refl, sym, ap, ◌∙◌, inl, inr, cond, arith}
use Rattle.std.proofs.lemmas.Bool.{cases_Bool, and_parts, false≢true}
use Rattle.drf_role.specs.Path.{Path, same_path}
use Rattle.drf_explain.specs.Each.{reported_here, reported_of_each, turn_on, turns_by_agent, turns_on_all, untouched_on}
use Rattle.drf_explain.specs.Explained.{after_agent, outcome}
use Rattle.drf_explain.specs.declared.finding.Finding.{Finding}
use Rattle.drf_explain.specs.declared.finding.Finding.TheVariants.{Inactive, NothingFree}
use Rattle.drf_explain.specs.declared.finding.Outcome.{Outcome}
use Rattle.drf_explain.specs.declared.finding.Outcome.TheVariants.{Grant, HeldBack, OverLimit, BelowThreshold, NothingLeft, ReservedForOthers}
use Rattle.drf_rows.specs.Client.{Client, path_of}
use Rattle.drf_rows.specs.Cycle.{at_timestamp, free_of, tried, turn_order}
use Rattle.drf_rows.specs.Offers.{is_empty}
use Rattle.drf_rows.specs.declared.rows.AgentRow.{AgentRow}
use Rattle.drf_rows.specs.declared.rows.Rows.{Rows}
use Rattle.drf_why.proofs.Firsts.{own-cons}
use Rattle.drf_why.specs.Passers.{Passer, Turn, is_of, is_passed, one_more, passers_on, with_passer, with_passers_on}
use Rattle.drf_why.specs.Pick.{bars_all, is_granted, is_inactive, is_nothing_free, is_of_client, outcome_in, outcome_on}
use Rattle.drf_why.specs.SumLaws.{CountsAddUp, EachHasItsPassers, is_accounted}
use Rattle.drf_why.specs.Tally.{comes_to, is_below_threshold, is_held_back, is_nothing_left, is_over_limit, is_reserved, tells_of}

-- ---- each agent is counted once

abbrev one_if : Bool → ℕ
one_if test = if test then 1 else 0

-- how much one agent adds to the sum of a client's outcomes
abbrev outcomes_in : Option Outcome → ℕ
outcomes_in o =
    one_if (option_map_or is_granted o false) + one_if (option_map_or is_held_back o false) + one_if (option_map_or is_over_limit o false)
    + one_if (option_map_or is_below_threshold o false) + one_if (option_map_or is_nothing_left o false) + one_if (option_map_or is_reserved o false)

abbrev counted_on : Path → Turn → ℕ
counted_on path turn = outcomes_in (outcome_on path turn.0) + one_if (tells_of is_inactive turn) + one_if (tells_of is_nothing_free turn)

one_outcome : (o : Outcome) → outcomes_in (Some o) ≡ 1
one_outcome (Grant bundle) = refl
one_outcome (HeldBack until) = refl
one_outcome (OverLimit role) = refl
one_outcome BelowThreshold = refl
one_outcome NothingLeft = refl
one_outcome ReservedForOthers = refl

module _ (path : Path) where
  tried_once : (rows : Rows) (agent : AgentRow) (clients : List Client) → list_any (is_of_client path) (reported_of_each rows agent clients) ≡ true
      → outcomes_in (outcome_on path (reported_of_each rows agent clients)) ≡ 1
  tried_once rows agent [] its = absurd (false≢true its)
  tried_once rows agent (client ∷ clients) its =
      let first : Finding = reported_here rows agent client in
      let later : List Finding = reported_of_each (tried rows agent client) agent clients in
      ap (λ fs. outcomes_in (outcome_in fs)) (own-cons path first later)
      ∙ elim (cases_Bool (same_path (path_of client) path)) [
        | inl here ↦ rw here (one_outcome (outcome rows agent client))
        | inr other ↦ rw other (tried_once (tried rows agent client) agent clients (sym (ap (λ b. b || list_any (is_of_client path) later) other) ∙ its))
      ]

none_inactive : (rows : Rows) (agent : AgentRow) (clients : List Client) → list_any is_inactive (reported_of_each rows agent clients) ≡ false
none_inactive rows agent [] = refl
none_inactive rows agent (client ∷ clients) = none_inactive (tried rows agent client) agent clients

none_nothing_free : (rows : Rows) (agent : AgentRow) (clients : List Client) → list_any is_nothing_free (reported_of_each rows agent clients) ≡ false
none_nothing_free rows agent [] = refl
none_nothing_free rows agent (client ∷ clients) = none_nothing_free (tried rows agent client) agent clients

none_bars : (rows : Rows) (agent : AgentRow) (clients : List Client) → list_any bars_all (reported_of_each rows agent clients) ≡ false
none_bars rows agent [] = refl
none_bars rows agent (client ∷ clients) = none_bars (tried rows agent client) agent clients

module _ (path : Path) where
  counted_once : (rows : Rows) (agent : AgentRow) → is_accounted path (turn_on rows agent) ≡ true → counted_on path (turn_on rows agent) ≡ 1
  counted_once rows agent = by agent.active (is_empty (free_of rows agent))
    where
      reported : Bool → Bool → List Finding
      reported active none = cond active (cond none (NothingFree agent.name ∷ []) (reported_of_each rows agent (turn_order rows))) (Inactive agent.name ∷ [])

      by : (active none : Bool) → is_accounted path (reported active none, untouched_on rows agent) ≡ true
          → counted_on path (reported active none, untouched_on rows agent) ≡ 1
      by true true its = refl
      by true false its =
          let order : List Client = turn_order rows in
          let tried_here = tried_once path rows agent order
          (sym (ap (λ b. b || list_any (is_of_client path) (reported_of_each rows agent order)) (none_bars rows agent order)) ∙ its) in
          rw (none_inactive rows agent order, none_nothing_free rows agent order) (omega (arith, tried_here))
      by false none its = refl

  each_counted_once : (rows : Rows) (agents : List AgentRow) → list_all (is_accounted path) (turns_on_all rows agents) ≡ true
      → AllByRecursion (λ turn. counted_on path turn ≡ 1) (turns_on_all rows agents)
  each_counted_once rows [] all = tt
  each_counted_once rows (agent ∷ agents) all =
      let parts = and_parts (is_accounted path (turn_on rows agent)) _ all in
      (counted_once rows agent parts.0, each_counted_once (after_agent rows agent) agents parts.1)

length-on_all : (rows : Rows) (agents : List AgentRow) → length (turns_on_all rows agents) ≡ length agents
length-on_all rows [] = refl
length-on_all rows (agent ∷ agents) = ap suc (length-on_all (after_agent rows agent) agents)

-- the number of agents that pass a test, without an upper bound
abbrev all_where : (Turn → Bool) → List Turn → ℕ
all_where test turns = length (filter test turns)

where-cons : (test : Turn → Bool) (turn : Turn) (turns : List Turn) → all_where test (turn ∷ turns) ≡ one_if (test turn) + all_where test turns
where-cons test turn turns = elim (cases_Bool (test turn)) [ inl here ↦ rw here (omega arith) | inr past ↦ rw past (omega arith) ]

few : (n : ℕ) → n < 2 ^ 64 → min n (2 ^ 64 - 1) ≡ n
few n below = omega (arith, below)

module _ (path : Path) where
  counted : (turns : List Turn) → AllByRecursion (λ turn. counted_on path turn ≡ 1) turns
      → all_where (comes_to is_granted path) turns + all_where (comes_to is_held_back path) turns + all_where (comes_to is_over_limit path) turns
      + all_where (comes_to is_below_threshold path) turns + all_where (comes_to is_nothing_left path) turns
      + all_where (comes_to is_reserved path) turns
      + all_where (tells_of is_inactive) turns + all_where (tells_of is_nothing_free) turns ≡ length turns
  counted [] all = refl
  counted (turn ∷ turns) all =
      let once : counted_on path turn ≡ 1 = all.0 in
      let later = counted turns all.1 in
      omega (
        arith,
        once,
        later,
        where-cons (comes_to is_granted path) turn turns,
        where-cons (comes_to is_held_back path) turn turns,
        where-cons (comes_to is_over_limit path) turn turns,
        where-cons (comes_to is_below_threshold path) turn turns,
        where-cons (comes_to is_nothing_left path) turn turns,
        where-cons (comes_to is_reserved path) turn turns,
        where-cons (tells_of is_inactive) turn turns,
        where-cons (tells_of is_nothing_free) turn turns,
      )

pub counts_add_up : CountsAddUp
unfolding turns_by_agent
counts_add_up rows at path below all =
    let turns : List Turn = turns_on_all (at_timestamp rows at) rows.agents in
    let whole = counted path turns (each_counted_once path (at_timestamp rows at) rows.agents all) in
    let long = length-on_all (at_timestamp rows at) rows.agents in
    omega (
      arith,
      whole,
      long,
      few (all_where (comes_to is_granted path) turns) (omega (arith, whole, long, below)),
      few (all_where (comes_to is_held_back path) turns) (omega (arith, whole, long, below)),
      few (all_where (comes_to is_over_limit path) turns) (omega (arith, whole, long, below)),
      few (all_where (comes_to is_below_threshold path) turns) (omega (arith, whole, long, below)),
      few (all_where (comes_to is_nothing_left path) turns) (omega (arith, whole, long, below)),
      few (all_where (comes_to is_reserved path) turns) (omega (arith, whole, long, below)),
      few (all_where (tells_of is_inactive) turns) (omega (arith, whole, long, below)),
      few (all_where (tells_of is_nothing_free) turns) (omega (arith, whole, long, below)),
    )

-- ---- some client passes over a client that is passed over

some_passer : (passers : List Passer) (path : Path) → 0 < length (with_passer passers path)
some_passer [] path = omega arith
some_passer (p ∷ ps) path = by (is_of path p)
  where
    by : (here : Bool) → 0 < length (if here then record { client = p.client; agents = one_more p.agents } ∷ ps else p ∷ with_passer ps path)
    by true = omega arith
    by false = omega arith

still_some : (passers : List Passer) (paths : List Path) → 0 < length passers → 0 < length (fold with_passer passers paths)
still_some passers [] some = some
still_some passers (path ∷ paths) some = still_some (with_passer passers path) paths (some_passer passers path)

some_more : (passers : List Passer) (paths : List Path) → not (is_empty paths) ≡ true → 0 < length (fold with_passer passers paths)
some_more passers [] some = absurd (false≢true some)
some_more passers (path ∷ paths) some = still_some (with_passer passers path) paths (some_passer passers path)

none_more : (passers : List Passer) (paths : List Path) → not (is_empty paths) ≡ false → fold with_passer passers paths ≡ passers
none_more passers [] none = refl
none_more passers (path ∷ paths) none = absurd (false≢true (sym none))

module _ (path : Path) where
  passed_on : (turn : Turn) (passers : List Passer) → is_passed path turn ≡ true → 0 < length (with_passers_on path passers turn)
  passed_on turn passers passed = some_more passers (passers_on path turn) passed

  unpassed_on : (turn : Turn) (passers : List Passer) → is_passed path turn ≡ false → with_passers_on path passers turn ≡ passers
  unpassed_on turn passers none = none_more passers (passers_on path turn) none

  more_on : (turn : Turn) (passers : List Passer) → 0 < length passers → 0 < length (with_passers_on path passers turn)
  more_on turn passers some = still_some passers (passers_on path turn) some

  more_over : (turns : List Turn) (passers : List Passer) → 0 < length passers → 0 < length (fold (with_passers_on path) passers turns)
  more_over [] passers some = some
  more_over (turn ∷ turns) passers some = more_over turns (with_passers_on path passers turn) (more_on turn passers some)

  passed_over : (turns : List Turn) (passers : List Passer) → 0 < all_where (is_passed path) turns
      → 0 < length (fold (with_passers_on path) passers turns)
  passed_over [] passers some = absurd (omega (arith, some))
  passed_over (turn ∷ turns) passers some = elim (cases_Bool (is_passed path turn)) [
    | inl passed ↦ more_over turns (with_passers_on path passers turn) (passed_on turn passers passed)
    | inr past ↦
        let later : one_if (is_passed path turn) ≡ 0 = ap one_if past in
        passed_over turns (with_passers_on path passers turn) (omega (arith, some, later, where-cons (is_passed path) turn turns))
  ]

  unpassed_over : (turns : List Turn) (passers : List Passer) → all_where (is_passed path) turns ≡ 0
      → fold (with_passers_on path) passers turns ≡ passers
  unpassed_over [] passers none = refl
  unpassed_over (turn ∷ turns) passers none = elim (cases_Bool (is_passed path turn)) [
    | inl passed ↦
        let here : one_if (is_passed path turn) ≡ 1 = ap one_if passed in
        absurd (omega (arith, none, here, where-cons (is_passed path) turn turns))
    | inr past ↦
        let here : one_if (is_passed path turn) ≡ 0 = ap one_if past in
        ap (λ ps. fold (with_passers_on path) ps turns) (unpassed_on turn passers past)
        ∙ unpassed_over turns passers (omega (arith, none, here, where-cons (is_passed path) turn turns))
  ]

pub each_has_its_passers : EachHasItsPassers
each_has_its_passers turns path = record {
  some = λ passed none.
      let long : 0 < length (fold (with_passers_on path) [] turns) = passed_over path turns [] (omega (arith, passed)) in
      let short : length (fold (with_passers_on path) [] turns) ≡ 0 = ap length none in
      omega (arith, long, short);
  none = λ zero. unpassed_over path turns [] (omega (arith, zero));
}
