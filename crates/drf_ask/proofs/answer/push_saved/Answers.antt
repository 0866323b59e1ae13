use Rattle.std.proofs.Common.{◌++◌, ap, ◌∙◌}
use Rattle.std.proofs.lemmas.Result.{on_ok_weaker}
use Rattle.json.specs.Print.{quoted}
use Rattle.serde_json.specs.Data.{string}
use Rattle.drf_core.specs.Machine.{live}
use Rattle.drf_rows.specs.Step.{live_rows}
use Rattle.drf_state.specs.State.{state_text}
use Rattle.drf_ask.specs.Question.{word_of}
use Rattle.drf_ask.specs.declared.question.Kind.TheVariants.{State}
use Rattle.drf_ask.proofs.Texts.{answer_whole}
use Rattle.drf_ask.proofs.answer.push_saved.Goals as goal

pub returns : goal.returns
unfolding live
returns g c =
    let text = c.deref.ensures.value ∙ c.in_ok-state.ensures.text ∙ ap state_text c.in_ok-rows.ensures.rows in
    let reported = c.in_ok-push_string.ensures ∙ ap (λ bytes. c.push_opening.new.text.items ++ quoted bytes) text in
    on_ok_weaker c.put.result
    (λ end. answer_whole c.args.text.now.items (word_of State) (string (state_text (live_rows c.args.core.now.rows))) _ _ _ c.in_ok-push_opening.ensures reported end) c.put.ensures
