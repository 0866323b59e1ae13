use Rattle.std.proofs.Common.{List, ◌++◌, map, length, ap, ◌∙◌}
use Rattle.std.proofs.lemmas.Result.{on_ok_weaker}
use Rattle.drf_rows.specs.Report.{report_of}
use Rattle.drf_rows.specs.declared.report.Report.{Report}
use Rattle.drf_show.specs.ShownText.{behind, table_heads, table_shown}
use Rattle.drf_show.specs.declared.tables.TableLine.{TableLine}
use Rattle.drf_show.proofs.text.push_counts.Goals as goal

pub table_lines-requires-clause-names : goal.table_lines-requires-clause-names
unfolding report_of
table_lines-requires-clause-names c = ap length (c.entries.ensures.value ∙ ap (λ (r : Report). r.total) c.requires.report)

pub returns : goal.returns
returns c =
    on_ok_weaker c.push_table.result
    (λ wrote. wrote ∙ ap (λ (ls : List TableLine). c.args.text.now.items ++ behind c.args.form (record { heads = table_heads; rows = map table_shown ls }))
    (c.deref.ensures.value ∙ c.in_ok-lines.ensures))
    c.push_table.ensures
