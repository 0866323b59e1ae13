-- The work that an event may add depends only on the rows without expired filters.
use Rattle.std.proofs.Common.{◌≡◌, ◌+◌, Bool, List, [], ◌∷◌, ◌++◌, Option, Some, None, refl, sym, ap, ◌∙◌, arith}
use Rattle.std.specs.Option.{option_map_or}
use Rattle.drf_rows.specs.LimitNumbers.{LimitNumbers}
use Rattle.drf_rows.specs.Step.{live_rows, refusal_of, effect, rows_after, rows_after_all, new_offers}
use Rattle.drf_rows.specs.declared.event.Event.{Event}
use Rattle.drf_rows.specs.declared.event.Event.TheVariants.{AddAgent, RemoveAgent, SetAgent, SetWeight, Cycle}
use Rattle.drf_rows.specs.declared.reply.Refusal.{Refusal}
use Rattle.drf_rows.specs.declared.rows.OfferRow.{OfferRow}
use Rattle.drf_rows.specs.declared.rows.Rows.{Rows}
use Rattle.drf_sorter.specs.Work.{Spends, Work}
use Rattle.drf_sorter.proofs.theorems.SpendLaws.{spends-both, spends-within}
use Rattle.drf_core.specs.Working.{all_nodes, allowance, allowed, allowance_of_all, nodes_of, offered_to, touched}
use Rattle.drf_laws.proofs.theorems.SameLive.{welcome_from, new_offers-live}

module _ (limits : LimitNumbers) (rows old : Rows) (event : Event) (live : live_rows rows ≡ live_rows old) where
  allowance-refused : (refusal : Refusal) → refusal_of limits rows event ≡ Some refusal → allowance limits old event ≡ 0
  allowance-refused refusal case = by (refusal_of limits old event) refl
    where
      by : (found : Option Refusal) → refusal_of limits old event ≡ found → allowance limits old event ≡ 0
      by None none =
          let nothing : Some refusal ≡ None = sym case ∙ welcome_from limits old rows event (sym live) none in
          absurd cc
      by (Some other) some = ap (λ (o : Option Refusal). option_map_or (λ refusal. 0) o (allowed old event)) some

module _ (rows old : Rows) (live : live_rows rows ≡ live_rows old) where
  touched-same : (event : Event) → nodes_of (touched (live_rows rows) event) ≡ nodes_of (touched (live_rows old) event)
  touched-same event = ap (λ (r : Rows). nodes_of (touched r event)) live

  nodes-same : all_nodes (live_rows rows) ≡ all_nodes (live_rows old)
  nodes-same = ap all_nodes live

  allowed-same : (event : Event) → new_offers rows (effect rows event) ≡ new_offers old (effect old event) → allowed rows event ≡ allowed old event
  allowed-same (AddAgent agent total) new = nodes-same
  allowed-same (RemoveAgent agent) new = λ i. touched-same (RemoveAgent agent) i + nodes-same i
  allowed-same (SetAgent agent total) new = nodes-same
  allowed-same (SetWeight role weight) new = refl
  allowed-same (Cycle at) new = ap (λ (os : List OfferRow). nodes_of (offered_to os)) new
  allowed-same event new = touched-same event

pub allowance-accepted : (limits : LimitNumbers) (rows old : Rows) (event : Event) → live_rows rows ≡ live_rows old → refusal_of limits rows event ≡ None
    → allowed rows event ≡ allowance limits old event
allowance-accepted limits rows old event live none =
    allowed-same rows old live event (new_offers-live limits rows old event live none)
    ∙ sym (ap (λ (o : Option Refusal). option_map_or (λ refusal. 0) o (allowed old event)) (welcome_from limits rows old event live none))

-- ---- a list of events

allowance-same_live : (limits : LimitNumbers) (rows old : Rows) (event : Event) → live_rows rows ≡ live_rows old
    → allowance limits rows event ≡ allowance limits old event
allowance-same_live limits rows old event live = by (refusal_of limits rows event) refl
  where
    by : (found : Option Refusal) → refusal_of limits rows event ≡ found → allowance limits rows event ≡ allowance limits old event
    by None none =
        ap (λ (o : Option Refusal). option_map_or (λ refusal. 0) o (allowed rows event)) none
        ∙ allowance-accepted limits rows old event live none
    by (Some refusal) some =
        ap (λ (o : Option Refusal). option_map_or (λ refusal. 0) o (allowed rows event)) some
        ∙ sym (allowance-refused limits rows old event live refusal some)

allowance_of_all-more : (limits : LimitNumbers) (rows : Rows) (events : List Event) (event : Event)
    → allowance_of_all limits rows (events ++ event ∷ [])
    ≡ allowance_of_all limits rows events + allowance limits (rows_after_all limits rows events) event
allowance_of_all-more limits rows [] event = omega arith
allowance_of_all-more limits rows (first ∷ events) event =
    omega (arith, allowance_of_all-more limits (rows_after limits rows first) events event)

-- the work after one more event
pub spends-more : {counted : Bool} {first middle last : Work} (limits now : LimitNumbers) (old rows : Rows) (events : List Event) (event : Event)
    → now ≡ limits → live_rows rows ≡ live_rows (rows_after_all limits old events)
    → Spends counted first middle (allowance_of_all limits old events)
    → Spends counted middle last (allowance now rows event)
    → Spends counted first last (allowance_of_all limits old (events ++ event ∷ []))
spends-more limits now old rows events event same live before next =
    spends-within (spends-both before next)
    (omega (
      arith,
      ap (λ (l : LimitNumbers). allowance l rows event) same,
      allowance_of_all-more limits old events event,
      allowance-same_live limits rows (rows_after_all limits old events) event live,
    ))
