use Rattle.std.proofs.Common.{length, sym, ap, ◌∙◌}
use Rattle.drf_master.specs.Journal.{Journal}
use Rattle.drf_master.proofs.Runs.{reported}
use Rattle.drf_master.proofs.book.Book.sheet.Goals as goal

pub returns : goal.returns
returns g c =
    let core = c.self.inside.core in
    rw (← c.self.view_is) (record {
      events = c.len.ensures.count ∙ ap (λ (j : Journal). length j.entries) (sym c.self.view_is);
      report = c.in_ok-report.ensures ∙ reported core.limits g.K.Naming.start c.self.inside.entries.items core c.self.invariant.run;
    })
