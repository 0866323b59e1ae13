use Rattle.std.proofs.Common.{◌++◌, true, ap, ◌∙◌}
use Rattle.std.proofs.lemmas.Result.{on_ok_weaker}
use Rattle.drf_core.specs.Machine.{live}
use Rattle.drf_explain.specs.Explained.{explained}
use Rattle.drf_explain.specs.ExplainedText.{finding_value}
use Rattle.drf_explain.specs.declared.finding.Finding.{Finding}
use Rattle.drf_role.specs.Text.{Text}
use Rattle.drf_rows.specs.Step.{live_rows}
use Rattle.serde_json.specs.Written.{compact_text}
use Rattle.drf_ask.specs.Answer.{list_value}
use Rattle.drf_ask.specs.Question.{word_of}
use Rattle.drf_ask.specs.declared.question.Kind.TheVariants.{Explain}
use Rattle.drf_ask.proofs.Texts.{answer_whole, all_listed}
use Rattle.drf_ask.proofs.answer.push_findings.Goals as goal

pub returns : goal.returns
unfolding live
returns g c =
    let value = list_value finding_value (explained (live_rows c.args.core.now.rows) c.args.at) in
    let found = all_listed (λ (framework : Text) (finding : Finding). true) c.deref.result.now ∙ c.deref.ensures.value ∙ c.in_ok-findings.ensures in
    let reported = c.in_ok-push_list.ensures ∙ ap (λ items. c.push_opening.new.text.items ++ compact_text (list_value finding_value items)) found in
    on_ok_weaker c.put.result
    (λ end. answer_whole c.args.text.now.items (word_of Explain) value _ _ _ c.in_ok-push_opening.ensures reported end) c.put.ensures
