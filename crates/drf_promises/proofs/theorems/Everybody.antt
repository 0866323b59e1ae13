-- In as many rounds as there are active clients, each is offered the free resources: after each round one client fewer
-- has no filter.
use Rattle.std.specs.Prelude.{◌≡◌, ℕ, zero, suc, ◌+◌, ◌<◌, ◌≤◌, min, max, Bool, true, false, not, ◌||◌, List, [], ◌∷◌, ◌++◌, length, count_by}
use Rattle.std.specs.List.{AllByRecursion, list_any}
use Rattle.std.proofs.Common.{refl, sym, ap, subst, ◌∙◌, inl, inr, cond, arith}
use Rattle.std.proofs.lemmas.Bool.{cases_Bool, and_from, or_left, or_right, true≢false}
use Rattle.std.proofs.lemmas.List.Sums.{count_by-le-length}
use Rattle.drf_role.specs.Path.{same_path}
use Rattle.drf_role.specs.PathLaws.{same_path_itself}
use Rattle.drf_role.specs.TextLaws.{same_itself}
use Rattle.drf_bundle.specs.Bundle.{is_unreserved}
use Rattle.drf_rows.specs.Client.{Client}
use Rattle.drf_rows.specs.Consistent.{IsConsistent}
use Rattle.drf_rows.specs.Cycle.{free_of, is_allocatable}
use Rattle.drf_rows.specs.Held.{active_clients}
use Rattle.drf_rows.specs.Holdings.{holding_of_offer}
use Rattle.drf_row_laws.specs.LifeLaws.{is_same_client}
use Rattle.drf_bundle.proofs.ListLaws.{count_by-cons, each_at, each_filter, each_from}
use Rattle.drf_rows.specs.declared.limits.TheConstants.{LATEST_TIMESTAMP, LONGEST_FILTER}
use Rattle.drf_rows.specs.declared.rows.AgentRow.{AgentRow}
use Rattle.drf_rows.specs.declared.rows.OfferRow.{OfferRow}
use Rattle.drf_rows.specs.declared.rows.Rows.{Rows}
use Rattle.drf_promises.specs.Cycles.{active_agents}
use Rattle.drf_promises.specs.Runs.{Has}
use Rattle.drf_promises.specs.Waiting.{made_in, round, EverybodyIsOffered, IsOffered}
use Rattle.drf_laws.proofs.theorems.Cycles.{each_is_at}
use Rattle.drf_promises.proofs.theorems.Rounds.{is_held, next, OutOrLasts, Waits}
use Rattle.drf_promises.proofs.theorems.Unfiltered.{ran_out, unheld}

-- ---- one client fewer

some_count : {X : Type 0} (p : X → Bool) (xs : List X) (x : X) → Has xs x → p x ≡ true → 1 ≤ count_by p xs
some_count p [] x (place, at) passes = cc
some_count p (y ∷ ys) x (zero, at) passes =
    let same : y ≡ x = cc in
    omega (arith, count_by-cons p y ys, ap {B = ℕ} (λ b. cond b 1 0) (ap p same ∙ passes))
some_count p (y ∷ ys) x (suc place, at) passes = omega (arith, count_by-cons p y ys, some_count p ys x (place, at) passes)

module _ {X : Type 0} (old new more : X → Bool) (is_more : (x : X) → new x ≡ (old x || more x)) where
  one_less_at : (x : X) → cond (not (new x)) 1 0 ≤ cond (not (old x)) 1 0
  one_less_at x = by (new x) (old x) (more x) (is_more x)
    where
      by : (n o m : Bool) → n ≡ (o || m) → cond (not n) 1 0 ≤ cond (not o) 1 0
      by true o m is = omega arith
      by false false m is = omega arith
      by false true m is = cc

  none_more : (xs : List X) → count_by (λ x. not (new x)) xs ≤ count_by (λ x. not (old x)) xs
  none_more [] = omega arith
  none_more (x ∷ xs) =
      omega (arith, count_by-cons (λ y. not (new y)) x xs, count_by-cons (λ y. not (old y)) x xs, one_less_at x, none_more xs)

  one_less : (xs : List X) (x : X) → Has xs x → old x ≡ false → more x ≡ true → count_by (λ x. not (new x)) xs + 1 ≤ count_by (λ x. not (old x)) xs
  one_less [] x (place, at) past here = cc
  one_less (y ∷ ys) x (zero, at) past here =
      let same : y ≡ x = cc in
      let was : old y ≡ false = ap old same ∙ past in
      let is : new y ≡ true = is_more y ∙ (λ i. was i || (ap more same ∙ here) i) in
      omega (
        arith,
        count_by-cons (λ z. not (new z)) y ys,
        count_by-cons (λ z. not (old z)) y ys,
        ap {B = ℕ} (λ b. cond (not b) 1 0) was,
        ap {B = ℕ} (λ b. cond (not b) 1 0) is,
        none_more ys,
      )
  one_less (y ∷ ys) x (suc place, at) past here =
      omega (
        arith,
        count_by-cons (λ z. not (new z)) y ys,
        count_by-cons (λ z. not (old z)) y ys,
        one_less_at y,
        one_less ys x (place, at) past here,
      )

-- ---- all rounds

module _ (start : Rows) (agent : AgentRow) (first last ms : ℕ) (right : IsConsistent start) (one : active_agents start ≡ agent ∷ [])
    (unreserved : is_unreserved agent.total ≡ true) (worth : is_allocatable (free_of start agent) ≡ true) (late : last ≤ LATEST_TIMESTAMP)
    (long : last < first + min ms LONGEST_FILTER) where
  abbrev held : Rows → Client → Bool
  held = is_held start agent first last ms right one unreserved worth late long

  abbrev Waiting : Rows → Type 0
  Waiting = Waits start agent first last ms right one unreserved worth late long

  offered_in : (timestamps : List ℕ) (rows : Rows) → Waiting rows → AllByRecursion (λ at. (first ≤ at) × (at ≤ last)) timestamps
      → count_by (λ c. not (held rows c)) (active_clients start) ≤ length timestamps
      → (client : Client) → Has (active_clients start) client → held rows client ≡ false → IsOffered (made_in ms rows timestamps) client
  offered_in [] rows waits times few client has past =
      absurd (omega (arith, few, some_count (λ c. not (held rows c)) (active_clients start) client has (ap not past)))
  offered_in (at ∷ timestamps) rows waits times few client has past =
      elim (next start agent first last ms right one unreserved worth late long rows at waits times.0.0 times.0.1) [
        | inl all ↦ absurd (true≢false (sym (each_at (λ c. held rows c ≡ true) (active_clients start) has.0 client all has.1) ∙ past))
        | inr round_made ↦
            let to : Client = (holding_of_offer round_made.offer).client in
            let itself : is_same_client to to ≡ true = and_from (same_path to.role to.role) _ (same_path_itself to.role) (same_itself to.framework) in
            let fewer = one_less (held rows) (held (round ms rows at)) (λ c. is_same_client c to) round_made.held (active_clients start) to round_made.has
            round_made.past itself in
            let later = offered_in timestamps (round ms rows at) round_made.waits times.1 (omega (arith, fewer, few)) client has in
            let rest : List OfferRow = made_in ms (round ms rows at) timestamps in
            ap (λ (os : List OfferRow). list_any (λ o. is_same_client client (holding_of_offer o).client) (os ++ rest)) round_made.made
            ∙ elim (cases_Bool (is_same_client client to)) [
              | inl same ↦ or_left (is_same_client client to) _ same
              | inr other ↦
                  or_right (is_same_client client to) _ (later (round_made.held client ∙ (λ i. past i || other i)))
            ]
      ]

nobody_waits : (clients : List Client) (offers : List OfferRow) → length clients ≤ 0 → AllByRecursion (IsOffered offers) clients
nobody_waits [] offers none = tt
nobody_waits (client ∷ clients) offers none = absurd (omega (arith, none))

pub everybody_is_offered : EverybodyIsOffered
everybody_is_offered rows agent [] first last ms right is_open one worth clock late times long enough = nobody_waits (active_clients rows) [] enough
everybody_is_offered rows agent (at ∷ timestamps) first last ms right is_open one worth clock late times long enough =
    let none = (subst (AllByRecursion (λ a. is_unreserved a.total ≡ true)) one
    (each_filter (λ a. is_unreserved a.total ≡ true) (λ a. a.active) rows.agents is_open.unreserved)).0 in
    let held : Client → Bool = is_held rows agent first last ms right one none worth late long rows in
    let begin : ℕ = max rows.clock first in
    let nobody : (client : Client) → held client ≡ false =
    λ client. unheld begin rows.filters is_open.filters last (omega (arith, clock, times.0.0, times.0.1)) client agent.name (free_of rows agent) in
    let waits : Waits rows agent first last ms right one none worth late long rows = record {
      consistent = right;
      agents = refl;
      active = refl;
      offers = refl;
      tasks = refl;
      limits = is_open.limits;
      begun = omega arith;
      clock = clock;
      lasting = each_from (λ f. f.until ≤ begin) (OutOrLasts begin last) rows.filters (λ f out. inl out) (ran_out begin rows.filters is_open.filters);
    } in
    let few : count_by (λ c. not (held c)) (active_clients rows) ≤ length (at ∷ timestamps) =
    omega (arith, count_by-le-length (λ c. not (held c)) (active_clients rows), enough) in
    each_from (Has (active_clients rows)) (IsOffered (made_in ms rows (at ∷ timestamps))) (active_clients rows)
    (λ client has. offered_in rows agent first last ms right one none worth late long (at ∷ timestamps) rows waits times few client has (nobody client))
    (each_is_at (active_clients rows))
