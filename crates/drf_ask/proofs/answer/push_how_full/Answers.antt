use Rattle.std.proofs.Common.{◌++◌, length, ap, sym, ◌∙◌, arith}
use Rattle.std.proofs.lemmas.Result.{on_ok_weaker}
use Rattle.serde_json.specs.Written.{compact_text}
use Rattle.drf_core.specs.Machine.{live}
use Rattle.drf_rows.specs.Report.{report_of}
use Rattle.drf_rows.specs.Step.{live_rows}
use Rattle.drf_ask.specs.Answer.{tables_value}
use Rattle.drf_ask.specs.Question.{word_of}
use Rattle.drf_ask.specs.declared.question.Kind.TheVariants.{Tables}
use Rattle.drf_ask.proofs.Texts.{answer_whole}
use Rattle.drf_ask.proofs.answer.push_how_full.Goals as goal

pub push_tables-requires-clause-clients : goal.push_tables-requires-clause-clients
unfolding live
push_tables-requires-clause-clients g c =
    let few = c.in_ok-rows.ensures.saveable.within.clients in
    let most = (c.agents.ensures.within).clients.1 in
    let same = ap (λ l. l.clients) c.requires in
    omega arith

pub push_tables-requires-clause-names : goal.push_tables-requires-clause-names
unfolding report_of
push_tables-requires-clause-names g c =
    ap length (c.entries.ensures.value ∙ ap (λ r. r.total) c.in_ok-report.ensures ∙ ap (λ rows. (report_of rows).total) (sym c.in_ok-rows.ensures.rows))

pub returns : goal.returns
unfolding live
returns g c =
    let value = tables_value c.args.core.now.limits (live_rows c.args.core.now.rows) in
    let reported = c.in_ok-push_tables.ensures
    ∙ (λ i. c.push_opening.new.text.items ++ compact_text (tables_value (c.requires i) (c.in_ok-rows.ensures.rows i))) in
    on_ok_weaker c.put.result
    (λ end. answer_whole c.args.text.now.items (word_of Tables) value _ _ _ c.in_ok-push_opening.ensures reported end) c.put.ensures
