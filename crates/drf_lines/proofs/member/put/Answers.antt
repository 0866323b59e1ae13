use Rattle.drf_lines.proofs.Appends.{appended}
use Rattle.drf_lines.proofs.member.put.Goals as goal

pub returns : goal.returns
returns c = appended c.extend_from_slice.result c.args.line.now.items _ c.extend_from_slice.ensures.items c.as_bytes.ensures.value c.utf8.text
