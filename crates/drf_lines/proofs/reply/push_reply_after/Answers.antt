use Rattle.std.proofs.lemmas.Result.{on_ok_weaker}
use Rattle.drf_lines.specs.ReplyLine.{reply_line}
use Rattle.drf_lines.proofs.ReplyTexts.{then}
use Rattle.drf_lines.proofs.reply.push_reply_after.Goals as goal

pub returns-clause-ok : goal.returns-clause-ok
unfolding reply_line
returns-clause-ok c =
    on_ok_weaker c.put_byte.result (λ end. then c.args.text.now.items _ _ c.in_ok-put_reply.ensures.ok end) c.put_byte.ensures.ok
