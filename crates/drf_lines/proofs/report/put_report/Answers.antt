use Rattle.std.proofs.lemmas.Result.{on_ok_weaker}
use Rattle.json.specs.Print.{escape_byte}
use Rattle.drf_lines.proofs.ReplyTexts.{then}
use Rattle.drf_lines.proofs.report.put_report.Goals as goal

pub returns-clause-ok : goal.returns-clause-ok
unfolding escape_byte
returns-clause-ok c =
    on_ok_weaker c.put_byte.result (λ end.
    then c.args.line.now.items _ _ c.in_ok-put.ensures.ok (then c.put.new.line.items _ _ c.in_ok-put_nodes.ensures.ok
    (then c.put_nodes.new.line.items _ _ c.in_ok-put_amounts.ensures.ok end))) c.put_byte.ensures.ok
