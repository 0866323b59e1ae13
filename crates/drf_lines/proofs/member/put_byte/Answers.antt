use Rattle.std.proofs.Common.{refl}
use Rattle.drf_lines.proofs.Appends.{appended}
use Rattle.drf_lines.proofs.ReplyTexts.{byte_utf8}
use Rattle.drf_lines.proofs.member.put_byte.Goals as goal

pub returns : goal.returns
returns c = appended _ c.args.line.now.items _ c.in_ok-push.ensures.items refl (byte_utf8 c.args.byte c.requires)
