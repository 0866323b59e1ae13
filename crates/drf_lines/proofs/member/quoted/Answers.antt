use Rattle.drf_lines.proofs.ReplyTexts.{quoted_alone}
use Rattle.drf_lines.proofs.member.quoted.Goals as goal

pub returns : goal.returns
returns c =
    rw (c.in_ok-string.ensures.room.0, c.new-out.ensures.before, c.new.ensures.items, c.in_ok-string.ensures.ok, c.new-out.ensures.tokens, quoted_alone c.args.text.now) at c.into_inner.ensures.items
