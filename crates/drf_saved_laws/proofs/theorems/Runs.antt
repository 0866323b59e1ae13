-- Rows can be saved after every run, and a run can resume from what was saved.
use Rattle.std.specs.Prelude.{◌≡◌, List, ◌++◌}
use Rattle.std.proofs.Common.{refl, sym, ap, ◌∙◌, arith}
use Rattle.std.proofs.lemmas.Bool.{le-ltb}
use Rattle.drf_rows.specs.Filters.{is_in_force}
use Rattle.drf_rows.specs.LimitNumbers.{LimitNumbers}
use Rattle.drf_rows.specs.Step.{opening, live_rows, rows_after_all, replies_to}
use Rattle.drf_bundle.proofs.ListLaws.{filter-again}
use Rattle.drf_row_laws.proofs.LiveLaws.{live_rows-twice, replies_to-same_live, rows_after_all-same_live}
use Rattle.drf_row_laws.proofs.RunLaws.{replies_to-append, rows_after_all-append}
use Rattle.drf_rows.specs.declared.reply.Reply.{Reply}
use Rattle.drf_rows.specs.declared.rows.Rows.{Rows}
use Rattle.drf_laws.proofs.theorems.Runs.{own_after_all}
use Rattle.drf_laws.proofs.theorems.Within.{Stands, run_stands}
use Rattle.drf_saved.specs.Saved.{head_of, saved_rows}
use Rattle.drf_saved_laws.specs.SavedLaws.{IsSaveable, LiveRowsAreSaved, RowsResume, RunsCanBeSaved, RunsGoOnFromSaved, RunsResume, SaveableRowsStaySo, SavedRowsGoOn}
use Rattle.drf_saved_laws.proofs.theorems.Faults.{no_head_fault}
use Rattle.drf_saved_laws.proofs.theorems.Saveable.{head_is_saveable}
use Rattle.drf_saved_laws.proofs.theorems.Taken.{saved_is_restored}

-- ---- rows can still be saved

pub saveable_rows_stay_so : SaveableRowsStaySo
saveable_rows_stay_so limits rows events ceilings given can =
    let first : Stands limits rows = search (can, ceilings) in
    let last : Stands limits (rows_after_all limits rows events) = run_stands limits rows events given first in
    let own = own_after_all limits rows events can.consistent given can.own in
    search (last, own)

opening_saveable : (limits : LimitNumbers) → IsSaveable limits opening
opening_saveable limits =
    head_is_saveable limits (head_of opening) (no_head_fault limits (head_of opening) (le-ltb limits.events 0 (omega arith), (refl, (refl, tt))))

pub runs_can_be_saved : RunsCanBeSaved
runs_can_be_saved limits events ceilings given = saveable_rows_stay_so limits opening events ceilings given (opening_saveable limits)

-- ---- runs resume from the current state

pub runs_resume : RunsResume
runs_resume limits rows first second =
    let mid : Rows = rows_after_all limits rows first in
    replies_to-append limits rows first second
    ∙ ap (λ (later : List Reply). replies_to limits rows first ++ later) (replies_to-same_live limits mid (live_rows mid) second (sym (live_rows-twice mid)))

pub rows_resume : RowsResume
rows_resume limits rows first second =
    let mid : Rows = rows_after_all limits rows first in
    ap live_rows (rows_after_all-append limits rows first second) ∙ rows_after_all-same_live limits mid (live_rows mid) second (sym (live_rows-twice mid))

-- ---- runs resume from what was saved

pub saved_rows_go_on : SavedRowsGoOn
saved_rows_go_on limits rows first second ceilings given can =
    let mid : Rows = rows_after_all limits rows first in (
      live_rows mid,
      saved_is_restored limits mid (saveable_rows_stay_so limits rows first ceilings given can),
      runs_resume limits rows first second,
      rows_resume limits rows first second,
    )

pub runs_go_on_from_saved : RunsGoOnFromSaved
runs_go_on_from_saved limits first second ceilings given = saved_rows_go_on limits opening first second ceilings given (opening_saveable limits)

saved_live : (rows : Rows) → saved_rows (live_rows rows) ≡ saved_rows rows
saved_live rows = rw (filter-again (is_in_force rows.clock) rows.filters)

pub live_rows_are_saved : LiveRowsAreSaved
live_rows_are_saved a b same = (sym (saved_live a) ∙ ap saved_rows same ∙ saved_live b, ap head_of same)
