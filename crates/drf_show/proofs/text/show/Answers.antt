use Rattle.std.proofs.Common.{◌++◌, sym, subst, ap, ◌∙◌}
use Rattle.drf_rows.specs.Report.{report_of}
use Rattle.drf_sorter.specs.Content.{IsSame}
use Rattle.drf_content.specs.Content.{content_of}
use Rattle.drf_show.specs.ShownText.{rows_text, shown}
use Rattle.drf_show.proofs.Shows.{content_live, report_live}
use Rattle.drf_show.proofs.text.show.Goals as goal

pub push_tables-requires-clause-content : goal.push_tables-requires-clause-content
push_tables-requires-clause-content g c κs within =
    subst (IsSame _) (content_live c.args.core.now.rows ∙ ap content_of (sym c.in_ok-rows.ensures.rows)) c.sorter-sorter.ensures.content

pub push_tables-requires-clause-report : goal.push_tables-requires-clause-report
push_tables-requires-clause-report g c κs within =
    c.in_ok-report.ensures ∙ report_live c.args.core.now.rows ∙ ap report_of (sym c.in_ok-rows.ensures.rows)

pub returns : goal.returns
unfolding shown
returns g c =
    c.in_ok-push_tables.ensures
    ∙ (λ i. c.new-text.ensures.items i ++ rows_text c.args.form c.args.limits.now (c.in_ok-rows.ensures.rows i))
