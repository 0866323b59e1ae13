use Rattle.std.proofs.Common.{List, refl, sym, subst, ◌∙◌}
use Rattle.std.proofs.lemmas.Result.{err_from_is_err_and}
use Rattle.drf_board.specs.History.{IsLegal}
use Rattle.drf_board.specs.declared.entry.Entry.{Entry}
use Rattle.drf_core.specs.Machine.{live}
use Rattle.drf_rows.specs.LimitNumbers.{LimitNumbers}
use Rattle.drf_drive.specs.Driven.{IsRunFault, IsShuffleOf}
use Rattle.drf_drive.proofs.Releases.{live-limits, unrun-ends, written-ends}
use Rattle.drf_drive.proofs.run.drive_scripts.Goals as goal

pub returns-clause-driven : goal.returns-clause-driven
returns-clause-driven g c =
    let start = live c.args.core in
    let scripts = c.args.scripts.items in
    let same = sym c.as_slice.ensures.value in
    let within = sym (live-limits c.args.core ∙ c.requires.limits) in
    λ known names meant. written-ends start known names c.as_slice.result.now (record {
      scripts = scripts;
      meant = meant;
      legal = subst (λ (limits : LimitNumbers). IsLegal limits start.rows c.as_slice.result.now) within
          (subst (λ (journal : List Entry). IsLegal c.args.limits start.rows journal) same c.in_ok-journal.ensures.legal);
      shuffle = subst (λ (journal : List Entry). IsShuffleOf scripts journal) same c.in_ok-journal.ensures.shuffle;
    }) c.write_journal-written.result _ _ c.write_journal-written.ensures.ok c.write_journal-written.ensures.err

pub returns-in_err-journal-clause-driven : goal.returns-in_err-journal-clause-driven
returns-in_err-journal-clause-driven g c =
    let start = live c.args.core in
    let scripts = c.args.scripts.items in
    let fault = c.in_err-journal.field-0.0 in
    let within = sym (live-limits c.args.core ∙ c.requires.limits) in
    let unfit = subst (λ (limits : LimitNumbers). IsRunFault limits start.rows scripts fault) within c.in_err-journal.ensures.fault in
    let p = err_from_is_err_and c.from_residual.result c.from_residual.ensures.1 in
    λ known names meant. rw (p.1, p.2) (unrun-ends start known names scripts meant _ _ refl fault unfit)
