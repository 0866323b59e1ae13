-- Lemmas about `specs/ConsumptionLaws.antt`.
use Rattle.std.specs.Prelude.{◌≡◌, ℕ, ◌+◌, ◌≤◌, Bool, true, false, not, ◌&&◌, List, [], ◌∷◌, ◌++◌, length, drop, sum_by, Option, Some, None}
use Rattle.std.specs.List.{AllByRecursion}
use Rattle.std.specs.Option.{option_map_or}
use Rattle.std.specs.Cmp.Lexicographic.{bytes_decides}
use Rattle.std.proofs.Common.{refl, sym, ap, ◌∙◌, cond, arith, append_assoc}
use Rattle.std.proofs.lemmas.Bool.{and_parts, and_from, not-false, false≢true}
use Rattle.std.proofs.lemmas.List.Sums.{sum_by-cons, sum_by-append}
use Rattle.std.proofs.lemmas.Slice.Eq.{starts_is}
use Rattle.drf_role.specs.Text.{Text, same_text}
use Rattle.drf_role.specs.Path.{Path, begins_with}
use Rattle.drf_role.specs.Parts.{parts_of}
use Rattle.drf_bundle.specs.Value.{Thousandths, units_in}
use Rattle.drf_bundle.specs.Bundle.{Key, IsBundle, key_of}
use Rattle.drf_bundle.proofs.theorems.TakenLaws.{units-rest_of_all}
use Rattle.drf_bundle.specs.declared.resource.Resource.{Resource}
use Rattle.drf_rows.specs.LimitNumbers.{LimitNumbers}
use Rattle.drf_rows.specs.Holdings.{Holding, holding_of_offer, holding_of_task, holdings_of}
use Rattle.drf_rows.specs.Cycle.{at_timestamp}
use Rattle.drf_rows.specs.Consistent.{IsConsistent}
use Rattle.drf_row_laws.proofs.ReleaseLaws.{sum_by-out, started_by, accepted_in, between, offer_out, tasks_last, offer_held}
use Rattle.drf_bundle.proofs.ListLaws.{sum_by_each_le}
use Rattle.drf_rows.specs.Offers.{offer_at, left_of_offer, task_of, offer_accepted}
use Rattle.drf_rows.specs.Quota.{unreserved_in, reserves, reserved_in, consumption_where, is_within}
use Rattle.drf_row_laws.proofs.QuotaLaws.{consumption_is_part_of_total}
use Rattle.drf_row_laws.proofs.ReportedShares.{small_total}
use Rattle.drf_rows.specs.Step.{refusal_of, effect}
use Rattle.drf_row_laws.proofs.StepLaws.{no_case_of}
use Rattle.drf_rows.proofs.TaskLaws.{units-covers_all}
use Rattle.drf_rows.specs.Tasks.{Start, uses, covers_all}
use Rattle.drf_rows.specs.declared.event.Accept as accepting
use Rattle.drf_rows.specs.declared.event.Event.TheVariants.{Accept}
use Rattle.drf_rows.specs.declared.rows.OfferRow.{OfferRow}
use Rattle.drf_rows.specs.declared.rows.Rows.{Rows}
use Rattle.drf_laws.specs.ConsumptionLaws.{RolesAboveConsumeMore, RestIsConsumedNoLonger, ConsumptionIsSmall}

-- ---- roles above

begins_trans : (a b c : Path) → begins_with a b ≡ true → begins_with b c ≡ true → begins_with a c ≡ true
begins_trans a b c first second =
    let more = (starts_is bytes_decides a b (begins_with a b) refl).0 first in
    let most = (starts_is bytes_decides b c (begins_with b c) refl).0 second in
    (starts_is bytes_decides a c (begins_with a c) refl).1 (drop (length c) b ++ drop (length b) a)
    (more ∙ ap (λ (p : Path). p ++ drop (length b) a) most ∙ append_assoc c (drop (length c) b) (drop (length b) a))

more_pass : (b c : Bool) (n : ℕ) → (b ≡ true → c ≡ true) → cond b n 0 ≤ cond c n 0
more_pass true true n so = omega arith
more_pass true false n so = absurd (false≢true (so refl))
more_pass false c n so = omega arith

pub every : {X : Type 0} (P : X → Type 0) → ((x : X) → P x) → (xs : List X) → AllByRecursion P xs
every P all [] = tt
every P all (x ∷ xs) = (all x, every P all xs)

-- if all roles that pass one test pass another
module _ (p q : Path → Bool) (so : (role : Path) → p role ≡ true → q role ≡ true) (label : Text) where
  reserved-more : (rs : List Resource) → reserved_in p label rs ≤ reserved_in q label rs
  reserved-more rs =
      sum_by_each_le (λ r. cond (reserves p label (key_of r)) (units_in r.value Thousandths) 0)
      (λ r. cond (reserves q label (key_of r)) (units_in r.value Thousandths) 0) rs
      (every (λ r. cond (reserves p label (key_of r)) (units_in r.value Thousandths) 0 ≤ cond (reserves q label (key_of r)) (units_in r.value Thousandths) 0)
      (λ r. more_pass (reserves p label (key_of r)) (reserves q label (key_of r)) (units_in r.value Thousandths) (kept (key_of r))) rs)
    where
      kept : (key : Key) → reserves p label key ≡ true → reserves q label key ≡ true
      kept key passes =
          let one = and_parts (same_text label key.0) (not (same_text key.1 []) && p (parts_of key.1)) passes in
          let two = and_parts (not (same_text key.1 [])) (p (parts_of key.1)) one.1 in
          and_from _ _ one.0 (and_from _ _ two.0 (so (parts_of key.1) two.1))

  pub consumption-more : (rows : Rows) → consumption_where p rows label ≤ consumption_where q rows label
  consumption-more rows =
      let free : Holding → ℕ = λ h. unreserved_in label h.bundle in
      omega (
        arith,
        sum_by_each_le (λ h. cond (p h.client.role) (free h) 0) (λ h. cond (q h.client.role) (free h) 0) (holdings_of rows)
            (every (λ h. cond (p h.client.role) (free h) 0 ≤ cond (q h.client.role) (free h) 0)
            (λ h. more_pass (p h.client.role) (q h.client.role) (free h) (so h.client.role)) (holdings_of rows)),
        sum_by_each_le (λ a. reserved_in p label a.total) (λ a. reserved_in q label a.total) rows.agents
            (every (λ a. reserved_in p label a.total ≤ reserved_in q label a.total) (λ a. reserved-more a.total) rows.agents),
      )

pub roles_above_consume_more : RolesAboveConsumeMore
roles_above_consume_more rows outer role label within =
    consumption-more (is_within role) (is_within outer) (λ r below. begins_trans r role outer below within) label rows

-- ---- accepting

module _ (test : Path → Bool) (label : Text) where
  abbrev consumed_in : Holding → ℕ
  consumed_in h = cond (test h.client.role) (unreserved_in label h.bundle) 0

  abbrev used : List (List Resource) → ℕ
  used parts = sum_by (λ part. unreserved_in label part) parts

  nothing : (b : Bool) → ◌≡◌ {A = ℕ} 0 (cond b 0 0)
  nothing true = refl
  nothing false = refl

  both : (b : Bool) (m n : ℕ) → cond b m 0 + cond b n 0 ≡ cond b (m + n) 0
  both true m n = refl
  both false m n = omega arith

  consumed-started : (o : OfferRow) (starts : List Start)
      → sum_by consumed_in (started_by o starts) ≡ cond (test o.role) (used (uses starts)) 0
  consumed-started o [] = nothing (test o.role)
  consumed-started o (s ∷ starts) =
      sum_by-cons consumed_in (holding_of_task (task_of o s)) (started_by o starts)
      ∙ ap (λ (n : ℕ). cond (test o.role) (unreserved_in label s.1) 0 + n) (consumed-started o starts)
      ∙ both (test o.role) (unreserved_in label s.1) (used (uses starts))
      ∙ ap (λ (n : ℕ). cond (test o.role) n 0) (sym (sum_by-cons (λ part. unreserved_in label part) s.1 (uses starts)))

  parted : (b : Bool) (whole part left : ℕ) → whole ≡ part + left → cond b whole 0 ≡ cond b part 0 + cond b left 0
  parted true whole part left sums = sums
  parted false whole part left sums = omega arith

  -- the rest of the offer is no longer held
  consumption-accepted : (rows : Rows) (number : ℕ) (o : OfferRow) (starts : List Start) → IsConsistent rows
      → offer_at rows number ≡ Some o → AllByRecursion IsBundle (uses starts) → covers_all o.bundle (uses starts) ≡ true
      → consumption_where test rows label
      ≡ consumption_where test (accepted_in rows o starts []) label + cond (test o.role) (unreserved_in label (left_of_offer o starts)) 0
  consumption-accepted rows number o starts consistent found each all =
      let less = offer_out rows number o starts [] consistent found in
      let left : List Holding = between rows number o starts [] consistent found in
      let is : IsBundle o.bundle = (offer_held rows number o starts [] consistent found).bundle in
      let has = units-covers_all o.bundle (uses starts) is each all (label, []) Thousandths in
      let rest = units-rest_of_all o.bundle (uses starts) (label, []) Thousandths is each in
      omega (
        arith,
        ap (sum_by consumed_in) less.has ∙ sum_by-out consumed_in less.before less.after (holding_of_offer o),
        ap (sum_by consumed_in) less.lacks,
        ap (sum_by consumed_in) (tasks_last rows number o starts [] consistent found) ∙ sum_by-append consumed_in left (started_by o starts),
        consumed-started o starts,
        parted (test o.role) (unreserved_in label o.bundle) (used (uses starts)) (unreserved_in label (left_of_offer o starts)) (omega (arith, has, rest)),
      )

-- an accepted `accept` uses parts that the offer covers
pub covered-accept : (limits : LimitNumbers) (rows : Rows) (a : accepting.Accept) (o : OfferRow) → offer_at rows a.offer ≡ Some o
    → refusal_of limits rows (Accept a) ≡ None → covers_all o.bundle (uses a.tasks) ≡ true
covered-accept limits rows a o found accepted =
    let beyond = (no_case_of limits rows (Accept a) accepted).1.1.1.1.1.1.1.0 in
    not-false (covers_all o.bundle (uses a.tasks))
    (sym (ap (λ (f : Option OfferRow). option_map_or (λ o. not (covers_all o.bundle (uses a.tasks))) f false) found) ∙ beyond)

pub rest_is_consumed_no_longer : RestIsConsumedNoLonger
unfolding effect
rest_is_consumed_no_longer limits rows a o test label consistent each found accepted =
    consumption-accepted test label rows a.offer o a.tasks consistent found each (covered-accept limits rows a o found accepted)
    ∙ ap (λ (n : ℕ). n + cond (test o.role) (unreserved_in label (left_of_offer o a.tasks)) 0)
    (sym (ap (λ (f : Option OfferRow).
    consumption_where test (option_map_or (λ o. offer_accepted (at_timestamp rows a.at) o a.tasks a.refuse_ms) f rows) label) found))

-- ---- no more is consumed than the total

pub consumption_is_small : ConsumptionIsSmall
consumption_is_small test rows label consistent few =
    omega (
      arith,
      consumption_is_part_of_total test rows label consistent,
      small_total rows.agents label consistent.agents.each few,
    )
