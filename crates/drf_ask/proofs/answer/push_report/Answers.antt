use Rattle.std.proofs.Common.{◌++◌, ap, ◌∙◌}
use Rattle.std.proofs.lemmas.Result.{on_ok_weaker}
use Rattle.serde_json.specs.Written.{compact_text}
use Rattle.drf_core.specs.Machine.{live}
use Rattle.drf_lines.specs.ReplyLine.{reply_line}
use Rattle.drf_lines.specs.ReportLine.{report_value}
use Rattle.drf_rows.specs.Held.{standing_of}
use Rattle.drf_rows.specs.Report.{report_of}
use Rattle.drf_rows.specs.declared.reply.Reply.TheVariants as reply
use Rattle.drf_ask.specs.Question.{word_of}
use Rattle.drf_ask.specs.declared.question.Kind.TheVariants.{Report}
use Rattle.drf_ask.proofs.Texts.{answer_whole, unfed}
use Rattle.drf_ask.proofs.answer.push_report.Goals as goal

pub returns : goal.returns
unfolding live report_of reply_line standing_of
returns g c =
    let value = report_value (report_of c.args.core.now.rows) in
    let opened = c.push_opening.new.text.items in
    let line = c.in_ok-push_reply.ensures.ok ∙ ap (λ report. opened ++ reply_line (reply.Report report)) c.in_ok-report.ensures in
    let reported = unfed opened (compact_text value) _ _ line c.drop_last.ensures in
    on_ok_weaker c.put.result
    (λ end. answer_whole c.args.text.now.items (word_of Report) value _ _ _ c.in_ok-push_opening.ensures reported end) c.put.ensures
