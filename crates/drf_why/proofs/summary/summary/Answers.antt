use Rattle.std.proofs.Common.{ap, sym, ◌++◌, ◌∙◌}
use Rattle.std.specs.List.{flat_map}
use Rattle.drf_explain.specs.Each.{turns_by_agent}
use Rattle.drf_explain.specs.Explained.{suppressed_of}
use Rattle.drf_explain.specs.ExplainedText.{explained_text}
use Rattle.drf_row_laws.proofs.LiveLaws.{report_of-live}
use Rattle.drf_rows.specs.declared.rows.Rows.{Rows}
use Rattle.drf_why.specs.Tally.{tally_lines, tallies_of}
use Rattle.drf_why.specs.Asked.{summed_text}
use Rattle.drf_why.proofs.summary.summary.Goals as goal

pub returns : goal.returns
unfolding summed_text
returns c =
    let live = c.in_ok-rows.ensures.rows in
    let silent = c.in_ok-text.ensures ∙ ap explained_text (c.deref.ensures.value ∙ c.in_ok-silent.ensures ∙ ap suppressed_of live) in
    let report = c.in_ok-report.ensures ∙ sym (report_of-live c.args.core.now.rows) in
    let sums = c.deref-2.ensures.value ∙ c.in_ok-tallies.ensures ∙ ap (λ (rows : Rows). tallies_of rows (turns_by_agent rows c.args.at)) live in
    c.in_ok-write_tallies.ensures ∙ (λ i. silent i ++ flat_map (tally_lines (report i)) (sums i))
