-- Theorems about histories to which an entry is added.
use Rattle.std.specs.Prelude.{◌≡◌, List, [], ◌∷◌, ◌++◌}
use Rattle.std.proofs.Common.{refl, ap, sym, ◌∙◌}
use Rattle.std.proofs.lemmas.List.{map-append}
use Rattle.drf_rows.specs.LimitNumbers.{LimitNumbers}
use Rattle.drf_row_laws.proofs.RunLaws.{replies_to-append, rows_after_all-append}
use Rattle.drf_rows.specs.Step.{replies_to, rows_after, rows_after_all, reply_to}
use Rattle.drf_rows.specs.declared.rows.Rows.{Rows}
use Rattle.drf_board.specs.History.{IsLegal, rows_of, events_of}
use Rattle.drf_board.specs.declared.entry.Entry.{Entry}

module _ (limits : LimitNumbers) (start : Rows) where
  -- the empty history is legal
  pub legal-nil : IsLegal limits start []
  unfolding IsLegal
  legal-nil = refl

  -- the rows after the empty history
  pub rows_of-nil : rows_of limits start [] ≡ start
  unfolding rows_of
  rows_of-nil = refl

  -- a legal history, extended by an event with the reply that the definition gives, is legal
  pub legal-push : (entries : List Entry) (e : Entry) → IsLegal limits start entries
      → e.reply ≡ reply_to limits (rows_of limits start entries) e.event → IsLegal limits start (entries ++ e ∷ [])
  unfolding IsLegal rows_of
  legal-push entries e legal told =
      map-append (λ x. x.reply) entries (e ∷ [])
      ∙ ((λ i. legal i ++ told i ∷ [])
      ∙ sym (ap (replies_to limits start) (map-append (λ x. x.event) entries (e ∷ [])) ∙ replies_to-append limits start (events_of entries) (e.event ∷ [])))

  -- the rows after one more entry
  pub rows_of-push : (entries : List Entry) (e : Entry)
      → rows_of limits start (entries ++ e ∷ []) ≡ rows_after limits (rows_of limits start entries) e.event
  unfolding rows_of
  rows_of-push entries e =
      ap (rows_after_all limits start) (map-append (λ x. x.event) entries (e ∷ [])) ∙ rows_after_all-append limits start (events_of entries) (e.event ∷ [])
