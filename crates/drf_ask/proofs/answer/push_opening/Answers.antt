use Rattle.std.proofs.Common.{◌++◌, ap, ◌∙◌}
use Rattle.std.proofs.lemmas.Result.{on_ok_weaker}
use Rattle.drf_ask.proofs.Texts.{then}
use Rattle.drf_ask.proofs.Words.{opening_is}
use Rattle.drf_ask.proofs.answer.push_opening.Goals as goal

pub returns : goal.returns
returns c =
    on_ok_weaker c.put-5.result (λ end.
    then c.args.text.now.items _ _ c.in_ok-put.ensures (then c.put.new.text.items _ _ (rw c.word.ensures at c.in_ok-put-2.ensures)
    (then c.put-2.new.text.items _ _ c.in_ok-put-3.ensures (then c.put-3.new.text.items _ _ (rw c.word-2.ensures at c.in_ok-put-4.ensures) end)))
    ∙ ap (λ text. c.args.text.now.items ++ text) (opening_is c.args.kind)) c.put-5.ensures
