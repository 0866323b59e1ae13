use Rattle.std.proofs.Common.{sym, ◌∙◌}
use Rattle.std.proofs.lemmas.Result.{on_ok_weaker}
use Rattle.drf_ask.specs.Answer.{list_value, listed}
use Rattle.drf_ask.specs.Question.{word_of}
use Rattle.drf_ask.proofs.Texts.{answer_whole}
use Rattle.drf_ask.proofs.answer.push_listed.Goals as goal

pub returns-then-is_known : goal.returns-then-is_known
returns-then-is_known g c =
    let value = list_value g.T.Listed.value (listed g.T.Listed.is_of c.args.framework.now c.args.items.now) in
    rw (sym c.is_known.ensures ∙ c.if-is_known.true) (on_ok_weaker c.put.result
    (λ end. answer_whole c.args.text.now.items (word_of c.args.kind) value _ _ _ c.in_ok-push_opening.ensures c.in_ok-push_list.ensures end) c.put.ensures)

pub returns : goal.returns
returns g c = rw (sym c.is_known.ensures ∙ c.if-is_known.false) c.push_no_answer.ensures
