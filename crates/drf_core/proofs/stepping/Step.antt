-- Steps and runs of an allocator.
use Rattle.std.proofs.Common.{◌≡◌, ℕ, zero, suc, ◌+◌, ◌<◌, Option, Result, Ok, Err, List, [], ◌∷◌, ◌++◌, Some, None, take, refl, sym, ap, subst, ◌∙◌, add-one}
use Rattle.std.specs.Prelude.{slice_get}
use Rattle.std.specs.Result.{OnErr}
use Rattle.drf_rows.specs.LimitNumbers.{LimitNumbers}
use Rattle.drf_rows.specs.Step.{live_rows, first_case, refusal_of, effect, rows_after, rows_after_all, reply_to, replies_to}
use Rattle.drf_rows.specs.Consistent.{IsConsistent, IsNumberedByEvents}
use Rattle.drf_row_laws.proofs.StepLaws.{rows_after-accepted}
use Rattle.drf_row_laws.proofs.RunLaws.{rows_after_all-append, replies_to-append}
use Rattle.drf_row_laws.proofs.LiveLaws.{reply_to-same_live, rows_after-same_live}
use Rattle.drf_rows.specs.declared.event.Event.{Event}
use Rattle.drf_rows.specs.declared.event.Event.TheVariants.{Accept, Decline}
use Rattle.drf_rows.specs.declared.reply.Refusal.{Refusal}
use Rattle.drf_rows.specs.declared.reply.Reply.{Reply}
use Rattle.drf_rows.specs.declared.rows.Rows.{Rows}
use Rattle.drf_core.specs.Machine.{Engine, IsSame, IsAfter, IsAfterAll, HasStopped}
use Rattle.drf_laws.specs.Kept.{AreFew, IsKept, IsCountable}
use Rattle.drf_core.specs.refusal.Cases.{early_cases_of, early_refusal_of}
use Rattle.drf_laws.proofs.theorems.Kept.{countable_after}
use Rattle.drf_core.proofs.refusing.Tests.{reported_early}
use Rattle.drf_laws.proofs.theorems.SameLive.{welcome_from}

-- what always holds after a call holds if it fails
pub on_err : {T E P : Type 0} (r : Result T E) → P → OnErr r P
on_err (Ok x) fact = tt
on_err (Err fault) fact = fact

-- the elements before one, and that one
pub take_one_more : {X : Type 0} (xs : List X) (i : ℕ) (x : X) → slice_get xs i ≡ Some x → take (i + 1) xs ≡ take i xs ++ x ∷ []
take_one_more [] i x at = cc
take_one_more (y ∷ xs) zero x at = let same : y ≡ x = cc in ap (λ z. z ∷ []) same
take_one_more (y ∷ xs) (suc i) x at = rw (add-one (suc i)) (ap (λ zs. y ∷ zs) (rw (add-one i) at (take_one_more xs i x at)))

-- ---- a step

-- whether there is an early refusal depends only on the rows without expired filters
pub early_from : (limits : LimitNumbers) (rows old : Rows) (event : Event) → live_rows rows ≡ live_rows old
    → early_refusal_of limits rows event ≡ None → early_refusal_of limits old event ≡ None
unfolding early_refusal_of refusal_of
early_from limits rows old (Accept a) live none = welcome_from limits rows old (Accept a) live none
early_from limits rows old (Decline d) live none = welcome_from limits rows old (Decline d) live none
early_from limits rows old event live none = subst (λ (r : Rows). first_case (early_cases_of limits r event) ≡ None) live none

-- an accepted event has no early refusal
pub early_none : (limits : LimitNumbers) (rows : Rows) (event : Event) → refusal_of limits rows event ≡ None → early_refusal_of limits rows event ≡ None
early_none limits rows event none = by (early_refusal_of limits rows event) refl
  where
    by : (found : Option Refusal) → early_refusal_of limits rows event ≡ found → early_refusal_of limits rows event ≡ None
    by None case = case
    by (Some refusal) case =
        let reported : Some refusal ≡ None = sym (reported_early limits rows event refusal case) ∙ none in
        case ∙ reported

-- an event that was applied and counted
module _ (limits : LimitNumbers) (rows tables counted : Rows) (event : Event) (kept : IsKept limits rows)
    (none : refusal_of limits rows event ≡ None) (applied : tables ≡ effect rows event)
    (is_counted : counted ≡ record tables { events = tables.events + 1 }) where
  countable : IsCountable limits rows (effect rows event)
  countable = countable_after limits rows kept.few kept.numbered event none

  counted_is : counted ≡ record (effect rows event) { events = rows.events + 1 }
  counted_is =
      is_counted
      ∙ (λ i. record (applied i) { events = (applied i).events + 1 })
      ∙ (λ i. record (effect rows event) { events = countable.events i + 1 })

  pub rows_after-counted : counted ≡ rows_after limits rows event
  rows_after-counted = counted_is ∙ sym (rows_after-accepted limits rows event none)

  pub events-applied : tables.events ≡ rows.events
  events-applied = ap (λ (r : Rows). r.events) applied ∙ countable.events

  pub IsKept-counted : IsConsistent counted → IsKept limits counted
  IsKept-counted right = record {
    consistent = right;
    few = subst (AreFew limits) (sym counted_is) countable.few;
    numbered = subst IsNumberedByEvents (sym counted_is) countable.numbered;
  }

-- ---- a run

-- one more event was applied
pub IsAfterAll-more : (old middle new : Engine) (events : List Event) (event : Event) → IsAfterAll old middle events → IsAfter middle new event → IsAfterAll old new (events ++ event ∷ [])
IsAfterAll-more old middle new events event before next = record {
  limits = next.limits ∙ before.limits;
  rows = next.rows
      ∙ ap (λ (l : LimitNumbers). live_rows (rows_after l middle.rows event)) before.limits
      ∙ rows_after-same_live old.limits middle.rows (rows_after_all old.limits old.rows events) before.rows event
      ∙ ap live_rows (sym (rows_after_all-append old.limits old.rows events (event ∷ [])));
}

-- one more reply was appended
pub reply-more : (old middle : Engine) (events : List Event) (event : Event) (reply : Reply) → IsAfterAll old middle events → reply ≡ reply_to middle.limits middle.rows event
    → replies_to old.limits old.rows events ++ reply ∷ [] ≡ replies_to old.limits old.rows (events ++ event ∷ [])
reply-more old middle events event reply before reported =
    let same : reply ≡ reply_to old.limits (rows_after_all old.limits old.rows events) event =
    reported ∙ ap (λ (l : LimitNumbers). reply_to l middle.rows event) before.limits
    ∙ reply_to-same_live old.limits middle.rows (rows_after_all old.limits old.rows events) before.rows event in
    ap (λ (r : Reply). replies_to old.limits old.rows events ++ r ∷ []) same
    ∙ sym (replies_to-append old.limits old.rows events (event ∷ []))

-- the run stopped at the next event, which changed nothing
pub HasStopped-at : (old middle new : Engine) (events : List Event) (number : ℕ) (event : Event) (before reported : List Reply) (room : ℕ)
    → slice_get events number ≡ Some event → IsAfterAll old middle (take number events) → IsSame middle new
    → reported ≡ before ++ replies_to old.limits old.rows (take number events)
    → (0 < room → early_refusal_of middle.limits middle.rows event ≡ None) → HasStopped old new events before reported room
HasStopped-at old middle new events number event before reported room at taken same replies early = record {
  number = number;
  event = event;
  at = at;
  ended = record { limits = same.limits ∙ taken.limits; rows = same.rows ∙ taken.rows };
  replies = replies;
  not_refused = λ some.
      early_from old.limits middle.rows (rows_after_all old.limits old.rows (take number events)) event taken.rows
      (subst (λ (l : LimitNumbers). early_refusal_of l middle.rows event ≡ None) taken.limits (early some));
}
