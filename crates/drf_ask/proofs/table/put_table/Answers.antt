use Rattle.std.proofs.lemmas.Result.{on_ok_weaker}
use Rattle.json.specs.Print.{escape_byte}
use Rattle.drf_ask.proofs.Texts.{then}
use Rattle.drf_ask.proofs.table.put_table.Goals as goal

pub returns : goal.returns
unfolding escape_byte
returns c =
    on_ok_weaker c.put-2.result (λ end.
    then c.args.text.now.items _ _ c.in_ok-put.ensures (then c.put.new.text.items _ _ c.in_ok-put_number.ensures
    (then c.put_number.new.text.items _ _ c.in_ok-put_number-2.ensures end))) c.put-2.ensures
