-- A run of two lists of events, one after the other.
use Rattle.std.specs.Prelude.{◌≡◌, List, [], ◌∷◌, ◌++◌}
use Rattle.std.proofs.Common.{refl, ap}
use Rattle.drf_rows.specs.LimitNumbers.{LimitNumbers}
use Rattle.drf_rows.specs.Step.{rows_after, rows_after_all, reply_to, replies_to}
use Rattle.drf_rows.specs.declared.event.Event.{Event}
use Rattle.drf_rows.specs.declared.rows.Rows.{Rows}

pub rows_after_all-append : (limits : LimitNumbers) (rows : Rows) (first second : List Event)
    → rows_after_all limits rows (first ++ second) ≡ rows_after_all limits (rows_after_all limits rows first) second
rows_after_all-append limits rows [] second = refl
rows_after_all-append limits rows (event ∷ first) second =
    rows_after_all-append limits (rows_after limits rows event) first second

pub replies_to-append : (limits : LimitNumbers) (rows : Rows) (first second : List Event)
    → replies_to limits rows (first ++ second)
    ≡ replies_to limits rows first ++ replies_to limits (rows_after_all limits rows first) second
replies_to-append limits rows [] second = refl
replies_to-append limits rows (event ∷ first) second =
    ap (λ replies. reply_to limits rows event ∷ replies)
    (replies_to-append limits (rows_after limits rows event) first second)
