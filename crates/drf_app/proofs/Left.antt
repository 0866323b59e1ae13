-- The allocator that is read from a saved state is the one that was saved.
use Rattle.std.proofs.Common.{◌≡◌, ℕ, Bool, false, List, Ok, sym, ap, ◌∙◌}
use Rattle.drf_core.specs.Machine.{Machine}
use Rattle.drf_rows.specs.declared.rows.Rows.{Rows}
use Rattle.drf_journal.specs.Lines.{lines_of}
use Rattle.drf_journal.specs.Resumed.{resumed}
use Rattle.drf_app.specs.ResumeLaws.{IsReadFrom, with_last_feed}
use Rattle.drf_app.specs.Saving.{IsSavedAfter, saved_of}
use Rattle.drf_app.proofs.Feeds.{fed}

pub read_is_saved : (machine start : Machine) (new_epoch : Bool) (first text : List ℕ) → IsSavedAfter machine new_epoch first text → IsReadFrom machine text start
    → start ≡ record { limits = machine.limits; rows = saved_of new_epoch (resumed machine (lines_of first)).rows }
read_is_saved machine start new_epoch first text saved from =
    let left : Rows = saved_of new_epoch (resumed machine (lines_of first)).rows in
    let both : Ok start.rows ≡ Ok left = sym from.rows ∙ saved.said in
    let rows : start.rows ≡ left = cc in
    (λ i. record { limits = from.limits i; rows = rows i })

-- it is the one after the lines of the first input, whether or not the last line has a line feed
pub left_is_read : (machine start : Machine) (first text : List ℕ) → IsSavedAfter machine false first text → IsReadFrom machine text start
    → resumed machine (lines_of (with_last_feed first)) ≡ start
left_is_read machine start first text saved from =
    ap (resumed machine) (fed first).lines ∙ sym (read_is_saved machine start false first text saved from)
