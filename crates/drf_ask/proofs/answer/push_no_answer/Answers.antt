use Rattle.std.proofs.Common.{◌++◌, ap, ◌∙◌}
use Rattle.std.proofs.lemmas.Result.{on_ok_weaker}
use Rattle.drf_ask.proofs.Texts.{then}
use Rattle.drf_ask.proofs.Words.{not_reported_is}
use Rattle.drf_ask.proofs.answer.push_no_answer.Goals as goal

pub returns : goal.returns
returns c =
    on_ok_weaker c.put-5.result (λ end.
    then c.args.text.now.items _ _ c.in_ok-put.ensures (then c.put.new.text.items _ _ (rw c.word_at.ensures at c.in_ok-put-2.ensures)
    (then c.put-2.new.text.items _ _ c.in_ok-put-3.ensures (then c.put-3.new.text.items _ _ (rw c.name.ensures at c.in_ok-put-4.ensures) end)))
    ∙ ap (λ text. c.args.text.now.items ++ text) (not_reported_is c.args.kind c.args.fault)) c.put-5.ensures
