use Rattle.drf_lines.proofs.Appends.{and_then}
use Rattle.drf_lines.proofs.ReplyTexts.{plain_is_kept}
use Rattle.drf_lines.proofs.member.put_plain.Goals as goal

pub returns : goal.returns
returns c = rw (plain_is_kept c.args.text.now c.requires) (and_then c.in_ok-put.ensures (and_then c.in_ok-put-2.ensures c.put_byte.ensures))
