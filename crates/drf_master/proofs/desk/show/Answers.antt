use Rattle.std.proofs.Common.{◌+◌, ◌∷◌, ◌++◌, [], sym, subst, ◌∙◌, arith}
use Rattle.std.proofs.lemmas.List.{length-append}
use Rattle.drf_board.specs.Sheets.{IsSheet}
use Rattle.drf_board.specs.declared.entry.Entry.{Entry}
use Rattle.drf_master.proofs.Runs.{reported}
use Rattle.drf_master.proofs.desk.show.Goals as goal

pub publish-requires-clause-sheet : goal.publish-requires-clause-sheet
publish-requires-clause-sheet g c =
    let limits = g.K.Naming.slate.limits in
    let start = g.K.Naming.start in
    let entries = c.args.board.now.entries in
    let core = c.args.next.now.core in
    let e = c.args.next.now.entry in
    subst (λ (x : Entry). IsSheet limits start (entries ++ x ∷ []) (record { events = c.args.place + 1; report = c.in_ok-report.report })) (sym c.entry.ensures)
    (record {
      events = omega (arith, length-append entries (e ∷ []), c.requires.place.0);
      report = c.in_ok-report.ensures ∙ reported limits start (entries ++ e ∷ []) core c.requires.next.run;
    })
