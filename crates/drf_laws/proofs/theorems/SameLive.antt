-- Two states with the same current state: they refuse the same events, for the same reason, and accept the others with
-- the same effect.
use Rattle.std.proofs.Common.{◌≡◌, Option, Some, None, refl, sym, ap, ◌∙◌, length}
use Rattle.drf_rows.specs.LimitNumbers.{LimitNumbers}
use Rattle.drf_rows.specs.Step.{live_rows, refusal_of, effect, answer, rows_after, reply_to, new_offers}
use Rattle.drf_row_laws.proofs.StepLaws.{reply_to-refused, reply_to-accepted, rows_after-refused, rows_after-accepted}
use Rattle.drf_row_laws.proofs.LiveLaws.{reply_to-same_live, rows_after-same_live}
use Rattle.drf_rows.specs.declared.event.Event.{Event}
use Rattle.drf_rows.specs.declared.event.Event.TheVariants.{Cycle}
use Rattle.drf_rows.specs.declared.reply.Refusal.{Refusal}
use Rattle.drf_rows.specs.declared.reply.Reply.TheVariants.{Refused}
use Rattle.drf_rows.specs.declared.rows.Rows.{Rows}
use Rattle.std.specs.Prelude.{drop}

-- the reply to an accepted event is not a refusal
answer_reported : (before after : Rows) (event : Event) (refusal : Refusal) → answer before after event ≡ Refused refusal → Some refusal ≡ None
answer_reported before after (Cycle at) refusal reported = cc
answer_reported before after event refusal reported = cc

-- from two states with the same current state
module _ (limits : LimitNumbers) (rows old : Rows) (event : Event) (live : live_rows rows ≡ live_rows old) where
  pub refused_from : (refusal : Refusal) → refusal_of limits rows event ≡ Some refusal
      → (Refused refusal ≡ reply_to limits old event) × (live_rows rows ≡ live_rows (rows_after limits old event))
  refused_from refusal case = (
    sym (reply_to-refused limits rows event refusal case) ∙ reply_to-same_live limits rows old live event,
    ap live_rows (sym (rows_after-refused limits rows event refusal case)) ∙ rows_after-same_live limits rows old live event,
  )

  pub welcome_from : refusal_of limits rows event ≡ None → refusal_of limits old event ≡ None
  welcome_from none = by (refusal_of limits old event) refl
    where
      by : (found : Option Refusal) → refusal_of limits old event ≡ found → refusal_of limits old event ≡ None
      by None case = case
      by (Some refusal) case =
          let reported : answer rows (effect rows event) event ≡ Refused refusal
          = sym (reply_to-accepted limits rows event none) ∙ reply_to-same_live limits rows old live event
          ∙ reply_to-refused limits old event refusal case in
          case ∙ answer_reported rows (effect rows event) event refusal reported

  pub accepted_from : refusal_of limits rows event ≡ None
      → (answer rows (effect rows event) event ≡ reply_to limits old event)
      × (live_rows (rows_after limits rows event) ≡ live_rows (rows_after limits old event))
  accepted_from none = (
    sym (reply_to-accepted limits rows event none) ∙ reply_to-same_live limits rows old live event,
    rows_after-same_live limits rows old live event,
  )

-- the current state has all offers
offers-live : (a b : Rows) → live_rows a ≡ live_rows b → a.offers ≡ b.offers
offers-live a b same = ap (λ (r : Rows). r.offers) same

module _ (limits : LimitNumbers) (rows old : Rows) (event : Event) (live : live_rows rows ≡ live_rows old) where
  -- the new offers are the same
  pub new_offers-live : refusal_of limits rows event ≡ None → new_offers rows (effect rows event) ≡ new_offers old (effect old event)
  new_offers-live none =
      let later : live_rows (rows_after limits rows event) ≡ live_rows (rows_after limits old event) = (accepted_from limits rows old event live none).1 in
      let none_old : refusal_of limits old event ≡ None = welcome_from limits rows old event live none in
      let before : rows.offers ≡ old.offers = offers-live rows old live in
      let after : (effect rows event).offers ≡ (effect old event).offers =
      sym (ap (λ (r : Rows). r.offers) (rows_after-accepted limits rows event none))
      ∙ offers-live (rows_after limits rows event) (rows_after limits old event) later
      ∙ ap (λ (r : Rows). r.offers) (rows_after-accepted limits old event none_old) in
      λ i. drop (length (before i)) (after i)
